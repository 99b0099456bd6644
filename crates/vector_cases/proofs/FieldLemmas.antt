-- How the fields of a line are read one after the other.
use Rattle.std.proofs.Common.{◌≡◌, ◌≢◌, ℕ, ◌<◌, false, List, [], ◌∷◌, ◌++◌, ◌==◌, length, refl, sym, ap, ◌∙◌, get_or, ne_eqb}
use Rattle.std.specs.List.{All, AllZip}
use Rattle.std.proofs.lemmas.List.{append_assoc}
use Rattle.std.proofs.lemmas.List.Elements.{All-from_get_or}
use Rattle.std.proofs.lemmas.List.Splits.{slice_split_at, slice_split_none}
use Rattle.vector_cases.specs.declared.fields.Fields.{Fields}
use Rattle.vector_cases.specs.Fields.{parted, fields_left, Value, Spells, Reads}

-- not a tab
abbrev IsOther : ℕ → Type 0
IsOther b = (b == 9) ≡ false

others : (text : List ℕ) → ((i : ℕ) → i < length text → get_or text i 0 ≢ 9) → All IsOther text
others text h = All-from_get_or IsOther text 0 (λ i less. ne_eqb (get_or text i 0) 9 (h i less))

pub first_field : (text field rest : List ℕ) → text ≡ field ++ 9 ∷ rest → ((i : ℕ) → i < length field → get_or field i 0 ≢ 9) → parted text ≡ field ∷ parted rest
first_field text field rest is h = ap parted is ∙ slice_split_at (λ b. b == 9) field 9 rest (others field h) refl

pub last_field : (text : List ℕ) → ((i : ℕ) → i < length text → get_or text i 0 ≢ 9) → parted text ≡ text ∷ []
last_field text h = slice_split_none (λ b. b == 9) text (others text h)

zipped : (fields more : List (List ℕ)) (values others : List Value) → AllZip Spells fields values → AllZip Spells more others → AllZip Spells (fields ++ more) (values ++ others)
zipped [] more [] others h k = k
zipped [] more (v ∷ values) others h k = absurd h
zipped (f ∷ fields) more [] others h k = absurd h
zipped (f ∷ fields) more (v ∷ values) others h k = (h.0, zipped fields more values others h.1 k)

pub reads_one : (before after : Fields) (field : List ℕ) (value : Value) → fields_left before ≡ field ∷ fields_left after → Spells field value → Reads before after (value ∷ [])
reads_one before after field value is h = record { read = field ∷ []; joined = is; spelled = (h, tt) }

pub reads_both : (before between after : Fields) (values others : List Value) → Reads before between values → Reads between after others → Reads before after (values ++ others)
reads_both before between after values others h k = record {
  read = h.read ++ k.read;
  joined = h.joined ∙ ap (λ l. h.read ++ l) k.joined ∙ sym (append_assoc h.read k.read (fields_left after));
  spelled = zipped h.read k.read values others h.spelled k.spelled;
}

pub reads_nothing : (fields : Fields) → Reads fields fields []
reads_nothing fields = record { read = []; joined = refl; spelled = tt }
