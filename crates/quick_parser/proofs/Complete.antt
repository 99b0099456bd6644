-- What items write is read to its end, and the parser stands again where it stood.
use Rattle.std.proofs.Common.{◌≡◌, ℕ, zero, suc, ◌-◌, ◌≤◌, Bool, true, false, List, [], ◌∷◌, Option, Some, refl, ap, ◌∙◌, arith}
use Rattle.std.specs.Prelude.{option_and_then, if◌then◌else◌}
use Rattle.std.proofs.lemmas.Bool.{lt-ltb}
use Rattle.quick_form.specs.Symbols.{Symbol, Mark, Else, Endif}
use Rattle.quick_form.specs.Form as form
use Rattle.quick_form.specs.Form.{Named, Literal, Term, Sum, Statements, no_more, assignment, output, return_of, loop, group, choice, Items, no_item, variable, initialised, main_with, item_group, item_choice, operand_symbol, write_terms, write_sum, write_statements, write_items, statement_blocks, item_blocks}
use Rattle.quick_parser.specs.declared.spots.SumEnd.{SumEnd}
use Rattle.quick_parser.specs.declared.spots.SumEnd.TheVariants.{Statement, Output, Condition}
use Rattle.quick_parser.specs.declared.spots.Place.{Place}
use Rattle.quick_parser.specs.declared.spots.Place.TheVariants.{Entry, Operand, Operator}
use Rattle.quick_parser.specs.declared.spots.Frame.{Frame}
use Rattle.quick_parser.specs.declared.spots.Frame.TheVariants.{Block, Group, Alternative}
use Rattle.quick_parser.specs.Spots.{Spot, block_count, advanced}

-- the spot behind symbols
abbrev pub advances : Spot → List Symbol → Option Spot
advances p [] = Some p
advances p (k ∷ ks) = option_and_then (λ q. advances q ks) (advanced p k)

abbrev pub spot : Place → List Frame → Spot
spot p fs = record { place = p; open_frames = fs }

-- a further term
term_passes :
    (e : SumEnd) (fs : List Frame) (b : Bool) (o : form.Operand) (ks : List Symbol)
    → advances (spot (Operator e) fs) (Mark (if b then 45 else 43) ∷ operand_symbol o ∷ ks)
    ≡ advances (spot (Operator e) fs) ks
term_passes e fs true (Named x) ks = refl
term_passes e fs true (Literal d) ks = refl
term_passes e fs false (Named x) ks = refl
term_passes e fs false (Literal d) ks = refl

terms_pass :
    (e : SumEnd) (fs : List Frame) (ts : List Term) (k : List Symbol)
    → advances (spot (Operator e) fs) (write_terms ts k) ≡ advances (spot (Operator e) fs) k
terms_pass e fs [] k = refl
terms_pass e fs (t ∷ ts) k = term_passes e fs t.subtracted t.operand (write_terms ts k) ∙ terms_pass e fs ts k

operand_passes :
    (e : SumEnd) (fs : List Frame) (o : form.Operand) (ks : List Symbol)
    → advances (spot (Operand e) fs) (operand_symbol o ∷ ks) ≡ advances (spot (Operator e) fs) ks
operand_passes e fs (Named x) ks = refl
operand_passes e fs (Literal d) ks = refl

sum_passes :
    (e : SumEnd) (fs : List Frame) (s : Sum) (k : List Symbol)
    → advances (spot (Operand e) fs) (write_sum s k) ≡ advances (spot (Operator e) fs) k
sum_passes e fs s k = operand_passes e fs s.first (write_terms s.more k) ∙ terms_pass e fs s.more k

pub statements_pass :
    (t : Statements) (fs : List Frame) (b : ℕ) → block_count fs ≡ suc b → statement_blocks t ≤ 64 - suc b
    → (k : List Symbol) → advances (spot Entry fs) (write_statements t k) ≡ advances (spot Entry fs) k
statements_pass no_more fs b e h k = refl
statements_pass (assignment x s rest) fs b e h k =
    rw e (sum_passes Statement fs s (Mark 59 ∷ write_statements rest k) ∙ statements_pass rest fs b e h k)
statements_pass (output s rest) fs b e h k =
    rw e (sum_passes Output fs s (Mark 41 ∷ Mark 59 ∷ write_statements rest k) ∙ statements_pass rest fs b e h k)
statements_pass (return_of s rest) fs b e h k =
    rw e (sum_passes Statement fs s (Mark 59 ∷ write_statements rest k) ∙ statements_pass rest fs b e h k)
statements_pass (loop s body rest) fs b e h k =
    rw (e, lt-ltb (suc b) 64 (omega arith))
    (sum_passes Condition fs s (Mark 41 ∷ Mark 123 ∷ write_statements body (Mark 125 ∷ write_statements rest k))
    ∙ statements_pass body (Block ∷ fs) (suc b) (ap (λ n. suc n) e) (omega arith) (Mark 125 ∷ write_statements rest k)
    ∙ statements_pass rest fs b e (omega arith) k)
statements_pass (group n body rest) fs b e h k =
    statements_pass body (Group ∷ fs) b e (omega arith) (Endif ∷ write_statements rest k)
    ∙ statements_pass rest fs b e (omega arith) k
statements_pass (choice n body other rest) fs b e h k =
    statements_pass body (Group ∷ fs) b e (omega arith) (Else ∷ write_statements other (Endif ∷ write_statements rest k))
    ∙ statements_pass other (Alternative ∷ fs) b e (omega arith) (Endif ∷ write_statements rest k)
    ∙ statements_pass rest fs b e (omega arith) k

pub items_pass :
    (t : Items) (fs : List Frame) → block_count fs ≡ zero → item_blocks t ≤ 64
    → (k : List Symbol) → advances (spot Entry fs) (write_items t k) ≡ advances (spot Entry fs) k
items_pass no_item fs e h k = refl
items_pass (variable x rest) fs e h k = rw e (items_pass rest fs e h k)
items_pass (initialised x d rest) fs e h k = rw e (items_pass rest fs e h k)
items_pass (main_with body rest) fs e h k =
    rw e
    (statements_pass body (Block ∷ fs) zero (ap (λ n. suc n) e) (omega arith) (Mark 125 ∷ write_items rest k)
    ∙ items_pass rest fs e (omega arith) k)
items_pass (item_group n body rest) fs e h k =
    items_pass body (Group ∷ fs) e (omega arith) (Endif ∷ write_items rest k) ∙ items_pass rest fs e (omega arith) k
items_pass (item_choice n body other rest) fs e h k =
    items_pass body (Group ∷ fs) e (omega arith) (Else ∷ write_items other (Endif ∷ write_items rest k))
    ∙ items_pass other (Alternative ∷ fs) e (omega arith) (Endif ∷ write_items rest k)
    ∙ items_pass rest fs e (omega arith) k
