-- The twelve bytes that stand for a header, as the Yamux specification lays them out: version, type, flags, stream id,
-- length, each field's most significant byte first.
use Rattle.std.specs.Prelude.{cond, ◌≡◌, List, [], ◌∷◌, ◌++◌, ℕ, ◌+◌, ◌*◌, ◌/◌, ◌%◌, ◌<◌, length, get_or, eqb, leb, Result, Ok, Err}
use Rattle.frame.specs.declared.header.Header.{Header}
use Rattle.frame.specs.declared.header.Tag.{Tag}
use Rattle.frame.specs.declared.header.Tag.TheVariants.{Data, WindowUpdate, Ping, GoAway}
use Rattle.frame.specs.declared.header.UnknownType.{UnknownType}
use Rattle.frame.specs.declared.header.HeaderDecodeError.{HeaderDecodeError}
use Rattle.frame.specs.declared.header.HeaderDecodeError.TheVariants as found
use Rattle.frame.specs.declared.header.WrongSize.{WrongSize}

-- ---- writing

-- The types: 0x0 Data, 0x1 Window Update, 0x2 Ping, 0x3 Go Away.
abbrev pub tag_number : Tag → ℕ
tag_number Data = 0
tag_number WindowUpdate = 1
tag_number Ping = 2
tag_number GoAway = 3

-- All fields are encoded in network order, that is big endian.
abbrev pub bytes16 : ℕ → List ℕ
bytes16 x = x / 256 % 256 ∷ x % 256 ∷ []

abbrev pub bytes32 : ℕ → List ℕ
bytes32 x = x / 16777216 % 256 ∷ x / 65536 % 256 ∷ x / 256 % 256 ∷ x % 256 ∷ []

-- Version (8 bits, always 0), Type (8 bits), Flags (16 bits), StreamID (32 bits), Length (32 bits).
abbrev pub layout : ℕ → ℕ → ℕ → ℕ → List ℕ
layout kind flags id n = 0 ∷ kind ∷ (bytes16 flags ++ (bytes32 id ++ bytes32 n))

abbrev pub wire : Header → List ℕ
wire h = layout (tag_number h.tag) h.flags.0 h.stream_id.0 h.length.0

-- ---- reading

-- The type of a number. Above 3 there is none.
abbrev pub type_of : ℕ → Result Tag UnknownType
type_of n =
    cond (eqb n 0) (Ok Data)
    (cond (eqb n 1) (Ok WindowUpdate)
    (cond (eqb n 2) (Ok Ping)
    (cond (eqb n 3) (Ok GoAway) (Err (record { 0 = n })))))

-- The number whose big-endian bytes these are.
abbrev pub number16 : ℕ → ℕ → ℕ
number16 a b = a * 256 + b

abbrev pub number32 : ℕ → ℕ → ℕ → ℕ → ℕ
number32 a b c d = a * 16777216 + b * 65536 + c * 256 + d

-- The field that starts at a byte.
abbrev pub field16 : List ℕ → ℕ → ℕ
field16 b at = number16 (get_or b at 0) (get_or b (at + 1) 0)

abbrev pub field32 : List ℕ → ℕ → ℕ
field32 b at = number32 (get_or b at 0) (get_or b (at + 1) 0) (get_or b (at + 2) 0) (get_or b (at + 3) 0)

-- The flags at byte 2, all 16 bits of them, the stream id at 4, the length at 8.
abbrev pub fields : Tag → List ℕ → Header
fields t b =
    record { tag = t; flags = record { 0 = field16 b 2 }; stream_id = record { 0 = field32 b 4 }; length = record { 0 = field32 b 8 } }

-- The type at byte 1, and an unknown one handed back.
abbrev pub typed_as : Result Tag UnknownType → List ℕ → Result Header HeaderDecodeError
typed_as (Ok t) b = Ok (fields t b)
typed_as (Err e) b = Err (found.Type e.0)

-- A header is twelve bytes of version 0 and of a known type.
abbrev pub decoded : List ℕ → Result Header HeaderDecodeError
decoded b =
    cond (eqb (length b) 12)
    (cond (eqb (get_or b 0 0) 0) (typed_as (type_of (get_or b 1 0)) b) (Err (found.Version (get_or b 0 0))))
    (Err found.Size)

-- ---- document 01's numbers

-- 0 done, 11 unknown version, 12 unknown type, 14 a header of the wrong size.
abbrev pub decode_reply : Result Header HeaderDecodeError → ℕ
decode_reply (Ok h) = 0
decode_reply (Err (found.Version v)) = 11
decode_reply (Err (found.Type t)) = 12
decode_reply (Err found.Size) = 14

abbrev pub encode_reply : Result (Unit {0}) WrongSize → ℕ
encode_reply (Ok u) = 0
encode_reply (Err e) = 14

-- How a header is written into a buffer: only one of twelve bytes takes it.
abbrev pub encoded : List ℕ → Result (Unit {0}) WrongSize
encoded b = cond (eqb (length b) 12) (Ok tt) (Err (record {}))

-- The buffer after that: the header's bytes, or as it was.
abbrev pub written : Header → List ℕ → List ℕ
written h b = cond (eqb (length b) 12) (wire h) b

-- ---- on numbers, for C

-- Document 01: encode gives 14 for a buffer of the wrong size, tested first, and 12 for a type above 3.
abbrev pub numbers_reply : ℕ → List ℕ → ℕ
numbers_reply kind b = cond (eqb (length b) 12) (cond (leb kind 3) 0 12) 14

-- The buffer after that: the twelve bytes, or as it was on a refusal.
abbrev pub numbers_written : ℕ → ℕ → ℕ → ℕ → List ℕ → List ℕ
numbers_written kind flags id n b = cond (eqb (length b) 12) (cond (leb kind 3) (layout kind flags id n) b) b

-- A number that decode hands out: the header's, or as it was on a refusal.
abbrev pub handed : Result Header HeaderDecodeError → (Header → ℕ) → ℕ → ℕ
handed (Ok h) field was = field h
handed (Err e) field was = was

abbrev pub kind_of : Header → ℕ
kind_of h = tag_number h.tag

abbrev pub flags_of : Header → ℕ
flags_of h = h.flags.0

abbrev pub id_of : Header → ℕ
id_of h = h.stream_id.0

abbrev pub length_of : Header → ℕ
length_of h = h.length.0

-- ---- what a header and a byte can hold

-- Flags are 16 bits, the stream id and the length 32 each.
pub record InRange (h : Header) : Type 0 where
  pub flags : h.flags.0 < 65536
  pub stream_id : h.stream_id.0 < 4294967296
  pub length : h.length.0 < 4294967296

-- Each element is a byte.
abbrev pub Bytes : List ℕ → Type 0
Bytes b = (i : ℕ) → get_or b i 0 < 256

-- Which bytes are which answer, rule by rule: the header, or the refusal with its cause.
pub data Reading (b : List ℕ) : Result Header HeaderDecodeError → Type 0 where
  header : (t : Tag) → length b ≡ 12 → get_or b 0 0 ≡ 0 → get_or b 1 0 ≡ tag_number t → Reading b (Ok (fields t b))
  version : length b ≡ 12 → (get_or b 0 0 ≡ 0 → ⊥) → Reading b (Err (found.Version (get_or b 0 0)))
  type : length b ≡ 12 → get_or b 0 0 ≡ 0 → 3 < get_or b 1 0 → Reading b (Err (found.Type (get_or b 1 0)))
  size : (length b ≡ 12 → ⊥) → Reading b (Err found.Size)
