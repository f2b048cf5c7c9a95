-- The line of an outcome and the last lines. Sentences are document 01's, "replay".
use Rattle.std.specs.Prelude.{Bool, cond, List, [], ◌∷◌, ◌++◌, ℕ, zero, suc, ◌+◌, ◌-◌, ◌*◌, ◌/◌, ◌%◌, ltb, Option, Some, None}
use Rattle.rules.specs.Replies.{Outcome, number}
use Rattle.rules.specs.declared.Woke.{Woke}
use Rattle.trace_lines.specs.declared.Shown.{Shown}
use Rattle.rules.specs.declared.Slot.{Slot}

-- decimal digits without leading zeros, by at most k steps of ten
unfoldable pub digits : ℕ → ℕ → List ℕ
digits zero n = (48 + n) ∷ []
digits (suc k) n = cond (ltb n 10) ((48 + n) ∷ []) (digits k (n / 10) ++ ((48 + n % 10) ∷ []))

-- n is more steps than n has digits
unfoldable pub decimal : ℕ → List ℕ
decimal n = digits n n

-- what digits are worth, read from the left after a number: the digits of n are worth n (proved)
unfoldable pub worth : ℕ → List ℕ → ℕ
worth a [] = a
worth a (d ∷ ds) = worth (a * 10 + (d - 48)) ds

abbrev pub hex_digit : ℕ → ℕ
hex_digit n = cond (ltb n 10) (48 + n) (87 + n)

-- "in hex": two digits a byte, the high one first
unfoldable pub hex : List ℕ → List ℕ
hex [] = []
hex (b ∷ bs) = hex_digit (b / 16) ∷ (hex_digit (b % 16) ∷ hex bs)

-- "`-` where none"
unfoldable pub or_dash : List ℕ → List ℕ
or_dash [] = 45 ∷ []
or_dash (x ∷ xs) = x ∷ xs

-- "slot (the call's; for a frame or open, the new or woken stream's)": its number, written as a value is
abbrev pub slot_value : Option Slot → Option ℕ
slot_value (Some s) = Some s.0
slot_value None = None

-- "value (`-` at reply 1; else new id, count of bytes .., id of a Ping sent .., or GoAway code)"
unfoldable pub value_text : Option ℕ → List ℕ
value_text (Some n) = decimal n
value_text None = 45 ∷ []

-- a letter where its mark is on
abbrev pub mark : Bool → ℕ → List ℕ
mark b letter = cond b (letter ∷ []) []

-- "of r w o, joined in that order"
unfoldable pub marks : Woke → List ℕ
marks w = mark w.reader 114 ++ (mark w.writer 119 ++ mark w.opener 111)

-- "wakes (..; only a when this event ended the connection)"
unfoldable pub wakes_text : Woke → List ℕ
wakes_text w = cond w.all (97 ∷ []) (or_dash (marks w))

-- a field and the byte that ends it: a space, or the line's end
abbrev pub field : List ℕ → ℕ → List ℕ
field text end = text ++ (end ∷ [])

-- "Line: event number, reply, slot .., value .., header sent in hex, wakes .., bytes read in hex"; `header` is no byte or the
-- header's twelve, and `bytes` are those read
unfoldable pub line_of : Shown → List ℕ → List ℕ → List ℕ
line_of s header bytes =
    field (decimal s.number) 32
    ++ (field (decimal (number s.reply)) 32
    ++ (field (value_text (slot_value s.slot)) 32
    ++ (field (value_text s.value) 32
    ++ (field (or_dash (hex header)) 32
    ++ (field (wakes_text s.wakes) 32
    ++ field (or_dash (hex bytes)) 10)))))

-- what the line of the n-th event shows of its outcome, beside the header and the bytes
abbrev pub shown_of : ℕ → Outcome → Shown
shown_of n o = record { number = n; reply = o.reply; slot = o.slot; value = o.value; wakes = o.wakes }

-- a word and two numbers
unfoldable pub last_of : List ℕ → ℕ → ℕ → List ℕ
last_of word a b = word ++ (field (decimal a) 32 ++ field (decimal b) 10)

-- "Last line `end`, events applied, growth figure"
abbrev pub end_line : ℕ → ℕ → List ℕ
end_line events growth = last_of (101 ∷ 110 ∷ 100 ∷ 32 ∷ []) events growth

-- "for an unreadable trace `bad` and events applied", and M-100: "the byte, counted from 0, at which the failing event starts .., after the
-- event count"
abbrev pub bad_line : ℕ → ℕ → List ℕ
bad_line events byte = last_of (98 ∷ 97 ∷ 100 ∷ 32 ∷ []) events byte

-- M-100: "`config` prints that number"
unfoldable pub config_line : ℕ → List ℕ
config_line n = (99 ∷ 111 ∷ 110 ∷ 102 ∷ 105 ∷ 103 ∷ 32 ∷ []) ++ field (decimal n) 10
