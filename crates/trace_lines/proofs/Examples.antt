-- Lines of document 01's worked example, each one computed. Assumes nothing.
use Rattle.std.proofs.Common.{Some, None, ◌≡◌, refl, true, false, [], ◌∷◌}
use Rattle.rules.specs.declared.Reply.TheVariants as reply
use Rattle.trace_lines.specs.Line.{digits, decimal, hex, or_dash, value_text, marks, wakes_text, line_of, last_of, end_line, bad_line, config_line}

-- `2 0 0 4 000000010000000100000004 - -`
pub second :
    line_of (record { number = 2; reply = reply.Done; slot = (Some (record { 0 = 0 })); value = (Some 4); wakes = record { reader = false; writer = false; opener = false; all = false } }) (0 ∷ 0 ∷ 0 ∷ 1 ∷ 0 ∷ 0 ∷ 0 ∷ 1 ∷ 0 ∷ 0 ∷ 0 ∷ 4 ∷ []) []
    ≡ 50 ∷ 32 ∷ 48 ∷ 32 ∷ 48 ∷ 32 ∷ 52 ∷ 32 ∷ 48 ∷ 48 ∷ 48 ∷ 48 ∷ 48 ∷ 48 ∷ 48 ∷ 49 ∷ 48 ∷ 48 ∷ 48 ∷ 48 ∷ 48 ∷ 48 ∷ 48 ∷ 49 ∷ 48 ∷ 48 ∷ 48 ∷ 48 ∷ 48 ∷ 48 ∷ 48 ∷ 52 ∷ 32 ∷ 45 ∷ 32 ∷ 45 ∷ 10 ∷ []
unfolding line_of last_of config_line decimal digits hex or_dash value_text marks wakes_text
second = refl

-- `5 0 0 - - r -`
pub fifth :
    line_of (record { number = 5; reply = reply.Done; slot = (Some (record { 0 = 0 })); value = None; wakes = record { reader = true; writer = false; opener = false; all = false } }) [] []
    ≡ 53 ∷ 32 ∷ 48 ∷ 32 ∷ 48 ∷ 32 ∷ 45 ∷ 32 ∷ 45 ∷ 32 ∷ 114 ∷ 32 ∷ 45 ∷ 10 ∷ []
unfolding line_of last_of config_line decimal digits hex or_dash value_text marks wakes_text
fifth = refl

-- `6 0 0 2 - - 6f6b`
pub sixth :
    line_of (record { number = 6; reply = reply.Done; slot = (Some (record { 0 = 0 })); value = (Some 2); wakes = record { reader = false; writer = false; opener = false; all = false } }) [] (111 ∷ 107 ∷ [])
    ≡ 54 ∷ 32 ∷ 48 ∷ 32 ∷ 48 ∷ 32 ∷ 50 ∷ 32 ∷ 45 ∷ 32 ∷ 45 ∷ 32 ∷ 54 ∷ 102 ∷ 54 ∷ 98 ∷ 10 ∷ []
unfolding line_of last_of config_line decimal digits hex or_dash value_text marks wakes_text
sixth = refl

-- `10 2 - 1 - rwo -`
pub every_mark :
    line_of (record { number = 10; reply = reply.GoAway; slot = None; value = (Some 1); wakes = record { reader = true; writer = true; opener = true; all = false } }) [] []
    ≡ 49 ∷ 48 ∷ 32 ∷ 50 ∷ 32 ∷ 45 ∷ 32 ∷ 49 ∷ 32 ∷ 45 ∷ 32 ∷ 114 ∷ 119 ∷ 111 ∷ 32 ∷ 45 ∷ 10 ∷ []
unfolding line_of last_of config_line decimal digits hex or_dash value_text marks wakes_text
every_mark = refl

-- `12 5 - - - a -`
pub ended :
    line_of (record { number = 12; reply = reply.Closed; slot = None; value = None; wakes = record { reader = false; writer = false; opener = false; all = true } }) [] []
    ≡ 49 ∷ 50 ∷ 32 ∷ 53 ∷ 32 ∷ 45 ∷ 32 ∷ 45 ∷ 32 ∷ 45 ∷ 32 ∷ 97 ∷ 32 ∷ 45 ∷ 10 ∷ []
unfolding line_of last_of config_line decimal digits hex or_dash value_text marks wakes_text
ended = refl

-- `end 8 0`
pub last : end_line 8 0 ≡ 101 ∷ 110 ∷ 100 ∷ 32 ∷ 56 ∷ 32 ∷ 48 ∷ 10 ∷ []
unfolding line_of last_of config_line decimal digits hex or_dash value_text marks wakes_text
last = refl

-- `bad 1 18`
pub unreadable : bad_line 1 18 ≡ 98 ∷ 97 ∷ 100 ∷ 32 ∷ 49 ∷ 32 ∷ 49 ∷ 56 ∷ 10 ∷ []
unfolding line_of last_of config_line decimal digits hex or_dash value_text marks wakes_text
unreadable = refl

-- `config 23`
pub refused : config_line 23 ≡ 99 ∷ 111 ∷ 110 ∷ 102 ∷ 105 ∷ 103 ∷ 32 ∷ 50 ∷ 51 ∷ 10 ∷ []
unfolding line_of last_of config_line decimal digits hex or_dash value_text marks wakes_text
refused = refl
