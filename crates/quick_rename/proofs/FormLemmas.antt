-- What a walk of the parser says of the symbols.
use Rattle.std.proofs.Common.{◌≡◌, ℕ, true, false, List, [], ◌∷◌, ◌++◌, Option, Some, None, option_and_then, sym, ◌∙◌, ap, subst, append_assoc}
use Rattle.quick_form.specs.Symbols.{Symbol, symbols_of}
use Rattle.quick_form.specs.Form.{IsWritten}
use Rattle.quick_form.specs.Places.{Placed, placed_symbols}
use Rattle.quick_form.proofs.PlaceLemmas.{spelled_append, placed_symbols_are_spelled_lem}
use Rattle.quick_parser.specs.Steps.{State, start, step, after, is_complete}
use Rattle.quick_parser.specs.Laws.{RefusalsEnd, CompleteIsWritten, OneStepMore}
use Rattle.quick_rename.specs.declared.visit.Stop.{Stop}
use Rattle.quick_rename.specs.Visits.{spelled, Visits}
use Rattle.quick_rename.specs.Readings.{IsWhole}

-- the walk of a parser
abbrev pub took : State → List Placed → Type 0
took s ks = after (spelled ks) ≡ Some s

abbrev pub refuses : List Placed → Type 0
refuses ks = after (spelled ks) ≡ None

-- where the parser stopped, no file has these symbols
pub stopped : (ks : List Placed) (p q : State) (place : Stop → List Symbol → Symbol → Type 0) (found : Option Stop) (stop : Stop) → RefusalsEnd → p ≡ start → Visits took refuses place p q ks found → found ≡ Some stop → IsWritten (spelled ks) → ⊥
stopped ks p q place found stop law e v f w =
    let visits : Visits took refuses place p q ks (Some stop) = subst (Visits took refuses place p q ks) f v in
    let s = visits [] (ap Some (sym e)) in
    let joined : spelled ks ≡ spelled (s.taken ++ s.stopper ∷ []) ++ spelled s.rest =
    ap spelled (s.symbols_are ∙ sym (append_assoc s.taken (s.stopper ∷ []) s.rest)) ∙ spelled_append (s.taken ++ s.stopper ∷ []) s.rest in
    law (spelled (s.taken ++ s.stopper ∷ [])) s.refused (spelled s.rest, subst IsWritten joined w)

-- where it didn't stop, it has taken them all
walked : (ks : List Placed) (p q : State) (place : Stop → List Symbol → Symbol → Type 0) (found : Option Stop) → p ≡ start → Visits took refuses place p q ks found → found ≡ None → after (spelled ks) ≡ Some q
walked ks p q place found e v f =
    let visits : Visits took refuses place p q ks None = subst (Visits took refuses place p q ks) f v in
    visits [] (ap Some (sym e))

pub walked_file : (bytes : List ℕ) (p q : State) (place : Stop → List Symbol → Symbol → Type 0) (found : Option Stop) → p ≡ start → Visits took refuses place p q (placed_symbols bytes) found → found ≡ None → after (symbols_of bytes) ≡ Some q
walked_file bytes p q place found e v f = ap after (sym (placed_symbols_are_spelled_lem bytes)) ∙ walked (placed_symbols bytes) p q place found e v f

pub whole : (ks : List Placed) (p q : State) (place : Stop → List Symbol → Symbol → Type 0) (found : Option Stop) → CompleteIsWritten → p ≡ start → Visits took refuses place p q ks found → found ≡ None → is_complete q ≡ true → IsWhole (spelled ks) q
whole ks p q place found law e v f c =
    let h = walked ks p q place found e v f in record { taken = h; written = (law (spelled ks) q h).0 c }

pub broken_off : (ks : List Placed) (p q : State) (place : Stop → List Symbol → Symbol → Type 0) (found : Option Stop) → CompleteIsWritten → p ≡ start → Visits took refuses place p q ks found → found ≡ None → is_complete q ≡ false → IsWritten (spelled ks) → ⊥
broken_off ks p q place found law e v f c w =
    let h = walked ks p q place found e v f in
    let t : is_complete q ≡ true = (law (spelled ks) q h).1 w in cc

-- one symbol more
pub takes_more : (ks : List Placed) (k : Placed) (s t : State) → OneStepMore → after (spelled ks) ≡ Some s → step s k.symbol ≡ Some t → after (spelled (ks ++ k ∷ [])) ≡ Some t
takes_more ks k s t law e f = ap after (spelled_append ks (k ∷ [])) ∙ (law (spelled ks) k.symbol ∙ (ap (option_and_then (λ u. step u k.symbol)) e ∙ f))

pub refuses_more : (ks : List Placed) (k : Placed) (s : State) → OneStepMore → after (spelled ks) ≡ Some s → step s k.symbol ≡ None → after (spelled (ks ++ k ∷ [])) ≡ None
refuses_more ks k s law e f = ap after (spelled_append ks (k ∷ [])) ∙ (law (spelled ks) k.symbol ∙ (ap (option_and_then (λ u. step u k.symbol)) e ∙ f))
