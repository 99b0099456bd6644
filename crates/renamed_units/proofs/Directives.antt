-- Directive lines whose tokens only move say the same.
use Rattle.std.proofs.Common.{◌≡◌, ℕ, zero, suc, Bool, true, false, ◌&&◌, ◌||◌, ◌-◌, cond, List, [], ◌∷◌, map, take, drop, length, Option, Some, None, refl, ap, sym, subst}
use Rattle.std.specs.Prelude.{⊤, codes}
use Rattle.std.specs.List.{list_any, flat_map}
use Rattle.text_edits.specs.Span.{PlainSpan}
use Rattle.c_text.specs.Token.{PlainToken}
use Rattle.c_text.specs.Constants.{inside}
use Rattle.c_text.specs.Directives.{PlainMacro, PlainDirective, if_line, ifdef_line, ifndef_line, elif_line, else_line, endif_line, define_line, bad_define, undef_line, include_line, error_line, null_line, malformed, is_spelled, is_word, is_text_kind, is_fixed_name, is_barred, has_repetition, Parameters, parameters, with_name, behind_dots, at_parameter, behind_parameter, parameters_of, in_body, macro_line, function_like, definition, by_word, removal, ends_with_angle, inclusion, named_directive, directive_of}
use Rattle.c_text.specs.Trees.{role_of, role_of_name}
use Rattle.c_text.specs.Preprocessing.{built_in, quoted_source, without_ends, source_of}
use Rattle.renamings.specs.Renamings.{Renaming}
use Rattle.renamed_units.specs.Pairs.{Pairs}
use Rattle.renamed_units.proofs.Alike.{OnlyMoved}
use Rattle.renamed_units.proofs.Pairs.{pairs-map, pairs-length, choice-alike}
use Rattle.renamed_units.proofs.Runs.{IsStanding}
use Rattle.renamed_units.proofs.Conditions.{AreMoved, spelled-moved, word-moved, pairs-drop}

pairs-take : {X Y : Type 0} (R : X → Y → Type 0) (n : ℕ) (as_ : List X) (bs : List Y) → Pairs R as_ bs → Pairs R (take n as_) (take n bs)
pairs-take R zero as_ bs p = tt
pairs-take R (suc n) [] [] p = tt
pairs-take R (suc n) [] (b ∷ bs) p = absurd p
pairs-take R (suc n) (a ∷ as_) [] p = absurd p
pairs-take R (suc n) (a ∷ as_) (b ∷ bs) p = (p.0, pairs-take R n as_ bs p.1)

module _ (r : Renaming) (At : ℕ → PlainSpan → Type 0) (standing : IsStanding r At) where
  abbrev Moved : PlainToken → PlainToken → Type 0
  Moved a b = AreMoved r At standing a b

  abbrev pub AreAllMoved : List PlainToken → List PlainToken → Type 0
  AreAllMoved as_ bs = Pairs Moved as_ bs

  pub role-moved : (as_ bs : List PlainToken) → AreAllMoved as_ bs → role_of bs ≡ role_of as_
  role-moved [] [] p = refl
  role-moved [] (b ∷ bs) p = absurd p
  role-moved (a ∷ as_) [] p = absurd p
  role-moved (a ∷ []) (b ∷ []) p = refl
  role-moved (a ∷ []) (b ∷ b2 ∷ bs) p = absurd p.1
  role-moved (a ∷ a2 ∷ as_) (b ∷ []) p = absurd p.1
  role-moved (a ∷ a2 ∷ as_) (b ∷ b2 ∷ bs) p = of-name a2 b2 p.1.0
    where
      of-name : (a b : PlainToken) → Moved a b → role_of_name b ≡ role_of_name a
      of-name a b m =
          rw (
            spelled-moved r At standing (codes "if") a b m,
            spelled-moved r At standing (codes "ifdef") a b m,
            spelled-moved r At standing (codes "ifndef") a b m,
            spelled-moved r At standing (codes "elif") a b m,
            spelled-moved r At standing (codes "else") a b m,
            spelled-moved r At standing (codes "endif") a b m,
          ) refl

  -- ---- macros

  abbrev AlikeParameters : Option Parameters → Option Parameters → Type 0
  AlikeParameters None None = ⊤
  AlikeParameters None (Some q) = ⊥
  AlikeParameters (Some p) None = ⊥
  AlikeParameters (Some p) (Some q) = (q.names ≡ p.names) × (q.variadic ≡ p.variadic) × AreAllMoved p.body q.body

  with-name-moved : (a b : List ℕ) (p q : Option Parameters) → b ≡ a → AlikeParameters p q → AlikeParameters (with_name a p) (with_name b q)
  with-name-moved a b None None e s = tt
  with-name-moved a b None (Some q) e s = absurd s
  with-name-moved a b (Some p) None e s = absurd s
  with-name-moved a b (Some p) (Some q) e s = (cc (e, s.0), s.1, s.2)

  dots-moved : (as_ bs : List PlainToken) → AreAllMoved as_ bs → AlikeParameters (behind_dots as_) (behind_dots bs)
  dots-moved [] [] p = tt
  dots-moved [] (b ∷ bs) p = absurd p
  dots-moved (a ∷ as_) [] p = absurd p
  dots-moved (a ∷ as_) (b ∷ bs) p =
      choice-alike AlikeParameters (is_spelled (codes ")") a) (is_spelled (codes ")") b) (Some (parameters [] true as_)) None (Some (parameters [] true bs)) None
      (spelled-moved r At standing (codes ")") a b p.0) (refl, refl, p.1) tt

  mutual
    at-parameter-moved : (as_ bs : List PlainToken) → AreAllMoved as_ bs → AlikeParameters (at_parameter as_) (at_parameter bs)
    at-parameter-moved [] [] p = tt
    at-parameter-moved [] (b ∷ bs) p = absurd p
    at-parameter-moved (a ∷ as_) [] p = absurd p
    at-parameter-moved (a ∷ as_) (b ∷ bs) p =
        choice-alike AlikeParameters (is_spelled (codes "...") a) (is_spelled (codes "...") b) (behind_dots as_) _ (behind_dots bs) _
        (spelled-moved r At standing (codes "...") a b p.0) (dots-moved as_ bs p.1)
        (choice-alike AlikeParameters (is_word a) (is_word b) (with_name a.text (behind_parameter as_)) None (with_name b.text (behind_parameter bs)) None
        (word-moved r At standing a b p.0)
        (with-name-moved a.text b.text (behind_parameter as_) (behind_parameter bs) p.0.is.text (behind-parameter-moved as_ bs p.1)) tt)

    behind-parameter-moved : (as_ bs : List PlainToken) → AreAllMoved as_ bs → AlikeParameters (behind_parameter as_) (behind_parameter bs)
    behind-parameter-moved [] [] p = tt
    behind-parameter-moved [] (b ∷ bs) p = absurd p
    behind-parameter-moved (a ∷ as_) [] p = absurd p
    behind-parameter-moved (a ∷ as_) (b ∷ bs) p =
        choice-alike AlikeParameters (is_spelled (codes ")") a) (is_spelled (codes ")") b) (Some (parameters [] false as_)) _ (Some (parameters [] false bs)) _
        (spelled-moved r At standing (codes ")") a b p.0) (refl, refl, p.1)
        (choice-alike AlikeParameters (is_spelled (codes ",") a) (is_spelled (codes ",") b) (at_parameter as_) None (at_parameter bs) None
        (spelled-moved r At standing (codes ",") a b p.0) (at-parameter-moved as_ bs p.1) tt)

  parameters-moved : (as_ bs : List PlainToken) → AreAllMoved as_ bs → AlikeParameters (parameters_of as_) (parameters_of bs)
  parameters-moved [] [] p = tt
  parameters-moved [] (b ∷ bs) p = absurd p
  parameters-moved (a ∷ as_) [] p = absurd p
  parameters-moved (a ∷ as_) (b ∷ bs) p =
      choice-alike AlikeParameters (is_spelled (codes ")") a) (is_spelled (codes ")") b) (Some (parameters [] false as_)) (at_parameter (a ∷ as_)) (Some (parameters [] false bs)) (at_parameter (b ∷ bs))
      (spelled-moved r At standing (codes ")") a b p.0) (refl, refl, p.1) (at-parameter-moved (a ∷ as_) (b ∷ bs) p)

  -- ---- directives

  pub record AlikeMacros (m n : PlainMacro) : Type 0 where
    pub name : n.name ≡ m.name
    pub params : n.params ≡ m.params
    pub body : Pairs (OnlyMoved r) m.body n.body

  abbrev pub AlikeDirectives : PlainDirective → PlainDirective → Type 0
  AlikeDirectives (if_line as_) (if_line bs) = AreAllMoved as_ bs
  AlikeDirectives (elif_line as_) (elif_line bs) = AreAllMoved as_ bs
  AlikeDirectives (ifdef_line a) (ifdef_line b) = Moved a b
  AlikeDirectives (ifndef_line a) (ifndef_line b) = Moved a b
  AlikeDirectives else_line else_line = ⊤
  AlikeDirectives endif_line endif_line = ⊤
  AlikeDirectives (define_line m) (define_line n) = AlikeMacros m n
  AlikeDirectives bad_define bad_define = ⊤
  AlikeDirectives (undef_line a) (undef_line b) = Moved a b
  AlikeDirectives (include_line as_) (include_line bs) = AreAllMoved as_ bs
  AlikeDirectives error_line error_line = ⊤
  AlikeDirectives null_line null_line = ⊤
  AlikeDirectives malformed malformed = ⊤
  AlikeDirectives other another = ⊥

  fixed-moved : (a b : PlainToken) → Moved a b → is_fixed_name b ≡ is_fixed_name a
  fixed-moved a b m = cc (m.is.kind, m.is.text)

  barred-moved : (as_ bs : List PlainToken) → AreAllMoved as_ bs → list_any is_barred bs ≡ list_any is_barred as_
  barred-moved [] [] p = refl
  barred-moved [] (b ∷ bs) p = absurd p
  barred-moved (a ∷ as_) [] p = absurd p
  barred-moved (a ∷ as_) (b ∷ bs) p =
      let rest = barred-moved as_ bs p.1 in
      let first : is_barred b ≡ is_barred a = cc p.0.is.text in
      cc

  macro-line-moved : (bad bad' : Bool) (a b : PlainToken) (params params' : Option (List (List ℕ))) (as_ bs : List PlainToken) → bad' ≡ bad → Moved a b → params' ≡ params → AreAllMoved as_ bs → AlikeDirectives (macro_line bad a params as_) (macro_line bad' b params' bs)
  macro-line-moved bad bad' a b params params' as_ bs e m f p =
      choice-alike AlikeDirectives (bad || is_fixed_name a || list_any is_barred as_) (bad' || is_fixed_name b || list_any is_barred bs) bad_define
      (define_line (record { name = a.text; params = params; body = map in_body as_ })) bad_define (define_line (record { name = b.text; params = params'; body = map in_body bs }))
      test tt
      (record { name = m.is.text; params = f; body = pairs-map Moved (OnlyMoved r) in_body in_body (λ c d n. body-token c d n.is) as_ bs p })
    where
      test : (bad' || is_fixed_name b || list_any is_barred bs) ≡ (bad || is_fixed_name a || list_any is_barred as_)
      test = rw (e, fixed-moved a b m, barred-moved as_ bs p) refl

      body-token : (c d : PlainToken) → OnlyMoved r c d → OnlyMoved r (in_body c) (in_body d)
      body-token c d n = record {
        kind = n.kind;
        untouched = n.untouched;
        text = n.text;
        joined = n.joined;
        file = n.file;
        span = n.span;
        place = refl;
      }

  function-like-moved : (a b : PlainToken) (p q : Option Parameters) → Moved a b → AlikeParameters p q → AlikeDirectives (function_like a p) (function_like b q)
  function-like-moved a b None None m s = tt
  function-like-moved a b None (Some q) m s = absurd s
  function-like-moved a b (Some p) None m s = absurd s
  function-like-moved a b (Some p) (Some q) m s =
      macro-line-moved (p.variadic || has_repetition p.names) (q.variadic || has_repetition q.names) a b (Some p.names) (Some q.names) p.body q.body
      (cc (s.0, s.1)) m (ap (λ (ns : List (List ℕ)). Some ns) s.0) s.2

  definition-moved : (a b : PlainToken) (as_ bs : List PlainToken) → Moved a b → AreAllMoved as_ bs → AlikeDirectives (definition a as_) (definition b bs)
  definition-moved a b [] [] m p = macro-line-moved false false a b None None [] [] refl m refl tt
  definition-moved a b [] (d ∷ bs) m p = absurd p
  definition-moved a b (c ∷ as_) [] m p = absurd p
  definition-moved a b (c ∷ as_) (d ∷ bs) m p =
      choice-alike AlikeDirectives (is_spelled (codes "(") c && c.joined) (is_spelled (codes "(") d && d.joined)
      (function_like a (parameters_of as_)) (macro_line false a None (c ∷ as_)) (function_like b (parameters_of bs)) (macro_line false b None (d ∷ bs))
      test (function-like-moved a b (parameters_of as_) (parameters_of bs) m (parameters-moved as_ bs p.1)) (macro-line-moved false false a b None None (c ∷ as_) (d ∷ bs) refl m refl p)
    where
      test : (is_spelled (codes "(") d && d.joined) ≡ (is_spelled (codes "(") c && c.joined)
      test = rw (spelled-moved r At standing (codes "(") c d p.0, p.0.is.joined) refl

  by-word-moved : (make make' : PlainToken → List PlainToken → PlainDirective) → ((a b : PlainToken) (as_ bs : List PlainToken) → Moved a b → AreAllMoved as_ bs → AlikeDirectives (make a as_) (make' b bs)) → (as_ bs : List PlainToken) → AreAllMoved as_ bs → AlikeDirectives (by_word make as_) (by_word make' bs)
  by-word-moved make make' keeps [] [] p = tt
  by-word-moved make make' keeps [] (b ∷ bs) p = absurd p
  by-word-moved make make' keeps (a ∷ as_) [] p = absurd p
  by-word-moved make make' keeps (a ∷ as_) (b ∷ bs) p =
      choice-alike AlikeDirectives (is_word a) (is_word b) (make a as_) malformed (make' b bs) malformed (word-moved r At standing a b p.0) (keeps a b as_ bs p.0 p.1) tt

  removal-moved : (a b : PlainToken) (as_ bs : List PlainToken) → Moved a b → AlikeDirectives (removal a as_) (removal b bs)
  removal-moved a b as_ bs m =
      choice-alike AlikeDirectives (is_fixed_name a) (is_fixed_name b) bad_define (undef_line a) bad_define (undef_line b) (fixed-moved a b m) tt m

  angle-moved : (as_ bs : List PlainToken) → AreAllMoved as_ bs → ends_with_angle bs ≡ ends_with_angle as_
  angle-moved [] [] p = refl
  angle-moved [] (b ∷ bs) p = absurd p
  angle-moved (a ∷ as_) [] p = absurd p
  angle-moved (a ∷ []) (b ∷ []) p = refl
  angle-moved (a ∷ []) (b ∷ b2 ∷ bs) p = absurd p.1
  angle-moved (a ∷ a2 ∷ as_) (b ∷ []) p = absurd p.1
  angle-moved (a ∷ a2 ∷ []) (b ∷ b2 ∷ []) p = spelled-moved r At standing (codes ">") a2 b2 p.1.0
  angle-moved (a ∷ a2 ∷ []) (b ∷ b2 ∷ b3 ∷ bs) p = absurd p.1.1
  angle-moved (a ∷ a2 ∷ a3 ∷ as_) (b ∷ b2 ∷ []) p = absurd p.1.1
  angle-moved (a ∷ a2 ∷ a3 ∷ as_) (b ∷ b2 ∷ b3 ∷ bs) p = angle-moved (a2 ∷ a3 ∷ as_) (b2 ∷ b3 ∷ bs) p.1

  inclusion-moved : (as_ bs : List PlainToken) → AreAllMoved as_ bs → AlikeDirectives (inclusion as_) (inclusion bs)
  inclusion-moved [] [] p = tt
  inclusion-moved [] (b ∷ bs) p = absurd p
  inclusion-moved (a ∷ as_) [] p = absurd p
  inclusion-moved (a ∷ []) (b ∷ []) p =
      choice-alike AlikeDirectives (is_text_kind a.kind) (is_text_kind b.kind) (include_line (a ∷ [])) malformed (include_line (b ∷ [])) malformed (ap is_text_kind p.0.is.kind) p tt
  inclusion-moved (a ∷ []) (b ∷ b2 ∷ bs) p = absurd p.1
  inclusion-moved (a ∷ a2 ∷ as_) (b ∷ []) p = absurd p.1
  inclusion-moved (a ∷ a2 ∷ as_) (b ∷ b2 ∷ bs) p =
      choice-alike AlikeDirectives (is_spelled (codes "<") a && ends_with_angle (a2 ∷ as_)) (is_spelled (codes "<") b && ends_with_angle (b2 ∷ bs))
      (include_line (a ∷ a2 ∷ as_)) malformed (include_line (b ∷ b2 ∷ bs)) malformed test p tt
    where
      test : (is_spelled (codes "<") b && ends_with_angle (b2 ∷ bs)) ≡ (is_spelled (codes "<") a && ends_with_angle (a2 ∷ as_))
      test = rw (spelled-moved r At standing (codes "<") a b p.0, angle-moved (a2 ∷ as_) (b2 ∷ bs) p.1) refl

  by-name : (w : List ℕ) (a b : PlainToken) (x y u v : PlainDirective) → Moved a b → AlikeDirectives x u → AlikeDirectives y v → AlikeDirectives (cond (is_spelled w a) x y) (cond (is_spelled w b) u v)
  by-name w a b x y u v m p q = choice-alike AlikeDirectives (is_spelled w a) (is_spelled w b) x y u v (spelled-moved r At standing w a b m) p q

  named-moved : (a b : PlainToken) (as_ bs : List PlainToken) → Moved a b → AreAllMoved as_ bs → AlikeDirectives (named_directive a as_) (named_directive b bs)
  named-moved a b as_ bs m p =
      by-name (codes "if") a b (if_line as_) _ (if_line bs) _ m p
      (by-name (codes "ifdef") a b (by_word (λ token more. ifdef_line token) as_) _ (by_word (λ token more. ifdef_line token) bs) _ m
      (by-word-moved (λ token more. ifdef_line token) (λ token more. ifdef_line token) (λ c d cs ds n q. n) as_ bs p)
      (by-name (codes "ifndef") a b (by_word (λ token more. ifndef_line token) as_) _ (by_word (λ token more. ifndef_line token) bs) _ m
      (by-word-moved (λ token more. ifndef_line token) (λ token more. ifndef_line token) (λ c d cs ds n q. n) as_ bs p)
      (by-name (codes "elif") a b (elif_line as_) _ (elif_line bs) _ m p
      (by-name (codes "else") a b else_line _ else_line _ m tt
      (by-name (codes "endif") a b endif_line _ endif_line _ m tt
      (by-name (codes "define") a b (by_word definition as_) _ (by_word definition bs) _ m (by-word-moved definition definition definition-moved as_ bs p)
      (by-name (codes "undef") a b (by_word removal as_) _ (by_word removal bs) _ m
      (by-word-moved removal removal (λ c d cs ds n q. removal-moved c d cs ds n) as_ bs p)
      (by-name (codes "include") a b (inclusion as_) _ (inclusion bs) _ m (inclusion-moved as_ bs p)
      (by-name (codes "error") a b error_line malformed error_line malformed m tt tt)))))))))

  pub directive-moved : (as_ bs : List PlainToken) → AreAllMoved as_ bs → AlikeDirectives (directive_of as_) (directive_of bs)
  directive-moved [] [] p = tt
  directive-moved [] (b ∷ bs) p = absurd p
  directive-moved (a ∷ as_) [] p = absurd p
  directive-moved (a ∷ []) (b ∷ []) p = tt
  directive-moved (a ∷ []) (b ∷ b2 ∷ bs) p = absurd p.1
  directive-moved (a ∷ a2 ∷ as_) (b ∷ []) p = absurd p.1
  directive-moved (a ∷ a2 ∷ as_) (b ∷ b2 ∷ bs) p = named-moved a2 b2 as_ bs p.1.0 p.1.1

  -- ---- inclusions

  texts-joined : (as_ bs : List PlainToken) → AreAllMoved as_ bs → flat_map (λ token. token.text) bs ≡ flat_map (λ token. token.text) as_
  texts-joined [] [] p = refl
  texts-joined [] (b ∷ bs) p = absurd p
  texts-joined (a ∷ as_) [] p = absurd p
  texts-joined (a ∷ as_) (b ∷ bs) p = let first = p.0.is.text in let rest = texts-joined as_ bs p.1 in cc

  ends-moved : (as_ bs : List PlainToken) → AreAllMoved as_ bs → AreAllMoved (without_ends as_) (without_ends bs)
  ends-moved as_ bs p =
      subst (λ (n : ℕ). AreAllMoved (without_ends as_) (take (n - 2) (drop 1 bs))) (sym (pairs-length Moved as_ bs p))
      (pairs-take Moved (length as_ - 2) (drop 1 as_) (drop 1 bs) (pairs-drop Moved 1 as_ bs p))

  pub source-moved : (headers : List (List ℕ)) (includer : List ℕ) (as_ bs : List PlainToken) → AreAllMoved as_ bs → source_of headers includer bs ≡ source_of headers includer as_
  source-moved headers includer [] [] p = refl
  source-moved headers includer [] (b ∷ bs) p = absurd p
  source-moved headers includer (a ∷ as_) [] p = absurd p
  source-moved headers includer (a ∷ []) (b ∷ []) p = ap (λ (t : List ℕ). quoted_source headers includer (inside t)) p.0.is.text
  source-moved headers includer (a ∷ []) (b ∷ b2 ∷ bs) p = absurd p.1
  source-moved headers includer (a ∷ a2 ∷ as_) (b ∷ []) p = absurd p.1
  source-moved headers includer (a ∷ a2 ∷ as_) (b ∷ b2 ∷ bs) p =
      ap built_in (texts-joined (without_ends (a ∷ a2 ∷ as_)) (without_ends (b ∷ b2 ∷ bs)) (ends-moved (a ∷ a2 ∷ as_) (b ∷ b2 ∷ bs) p))
