-- Where a declared name is on, the tokens declare a number.
use Rattle.std.proofs.Common.{◌≡◌, ℕ, Bool, true, false, cond, ◌&&◌, ◌||◌, List, [], ◌∷◌, ◌++◌, map, refl, ap, ◌∙◌, codes}
use Rattle.std.specs.List.{list_any}
use Rattle.std.proofs.lemmas.Bool.{or_right}
use Rattle.c_text.specs.Token.{PlainToken}
use Rattle.c_text.specs.declared.token.TokenKind.TheVariants as kind
use Rattle.c_tree.specs.declared.terminals.Terminal.TheVariants as t
use Rattle.c_tree.specs.Terminals.{terminal_of, same}
use Rattle.quick_form.specs.Symbols.{Symbol, Int, Void, While, Putchar, Main, Name, Number, Mark}
use Rattle.quick_form.specs.Form.{Term, Sum, write_terms, write_sum}
use Rattle.quick_form.specs.Program.{Code, done, assign, put, give, while_, object_names, bodies}
use Rattle.quick_core.specs.Present.{Item, tentative, valued, main_of, declarations}
use Rattle.quick_trees.specs.Tokens.{write_code, write_present}
use Rattle.quick_lines.specs.Spellings.{Spelling, spelling, spellings_of, symbol_spelling}
use Rattle.quick_units.specs.Units.{is_on, replaced_spelling, unit_spellings}
use Rattle.tree_pairs.specs.Pairs.{begin_with_number, declare_number}

-- the same of spellings
abbrev begins : List Spelling → Bool
begins [] = false
begins (w ∷ ws) = same t.Number (terminal_of w.kind w.text)

abbrev declares : List Spelling → Bool
declares [] = false
declares (w ∷ ws) = (same t.Int (terminal_of w.kind w.text) && begins ws) || declares ws

begins-same : (tokens : List PlainToken) → begin_with_number tokens ≡ begins (spellings_of tokens)
begins-same [] = refl
begins-same (x ∷ tokens) = refl

declares-same : (tokens : List PlainToken) → declare_number tokens ≡ declares (spellings_of tokens)
declares-same [] = refl
declares-same (x ∷ tokens) =
    ap (λ b. (same t.Int (terminal_of x.kind x.text) && b) || declare_number tokens) (begins-same tokens)
    ∙ ap (λ b. (same t.Int (terminal_of x.kind x.text) && begins (spellings_of tokens)) || b) (declares-same tokens)

behind : (w : Spelling) (ws : List Spelling) → declares ws ≡ true → declares (w ∷ ws) ≡ true
behind w ws e = or_right (same t.Int (terminal_of w.kind w.text) && begins ws) (declares ws) e

module _ (names : List (List ℕ)) where
  abbrev spelled : List Symbol → List Spelling
  spelled ks = map (λ k. replaced_spelling names (symbol_spelling k)) ks

  record Declares (ks : List Symbol) : Type 0 where
    is : declares (spelled ks) ≡ true

  behind-symbol : {k : Symbol} {ks : List Symbol} → Declares ks → Declares (k ∷ ks)
  behind-symbol {k} {ks} h = record { is = behind (replaced_spelling names (symbol_spelling k)) (spelled ks) h.is }

  behind-terms : (ts : List Term) {k : List Symbol} → Declares k → Declares (write_terms ts k)
  behind-terms [] h = h
  behind-terms (x ∷ ts) h = behind-symbol (behind-symbol (behind-terms ts h))

  behind-sum : (s : Sum) {k : List Symbol} → Declares k → Declares (write_sum s k)
  behind-sum s h = behind-symbol (behind-terms s.more h)

  -- behind a few symbols
  behind-all : (front : List Symbol) {k : List Symbol} → Declares k → Declares (front ++ k)
  behind-all [] h = h
  behind-all (x ∷ front) h = behind-symbol (behind-all front h)

  behind-code : (c : Code) {k : List Symbol} → Declares k → Declares (write_code c k)
  behind-code done h = h
  behind-code (assign x s rest) h =
      behind-all (Name x ∷ Mark 61 ∷ []) (behind-sum s (behind-symbol (behind-code rest h)))
  behind-code (put s rest) h = behind-all (Putchar ∷ Mark 40 ∷ []) (behind-sum s (behind-all (Mark 41 ∷ Mark 59 ∷ []) (behind-code rest h)))
  behind-code (give s rest) h = behind-symbol (behind-sum s (behind-symbol (behind-code rest h)))
  behind-code (while_ s body rest) h =
      behind-all (While ∷ Mark 40 ∷ [])
      (behind-sum s (behind-all (Mark 41 ∷ Mark 123 ∷ []) (behind-code body (behind-symbol (behind-code rest h)))))

  -- `int`, and a name that is on
  abbrev number_if : Bool → List ℕ → Spelling
  number_if b x = cond b (spelling kind.Number (codes "1")) (spelling kind.Name x)

  declared-here : (x : List ℕ) (k : List Symbol) → is_on names x ≡ true → Declares (Int ∷ Name x ∷ k)
  declared-here x k e = record { is = ap (λ b. begins (number_if b x ∷ []) || declares (spelled (Name x ∷ k))) e }

  declared-by : (b : Bool) (x : List ℕ) (front k : List Symbol) (others : Bool) → is_on names x ≡ b → (b || others) ≡ true → (others ≡ true → Declares k) → Declares (Int ∷ Name x ∷ front ++ k)
  declared-by true x front k others e h next = declared-here x (front ++ k) e
  declared-by false x front k others e h next = behind-all (Int ∷ Name x ∷ front) (next h)

  declared-items : (items : List Item) → list_any (is_on names) (object_names (declarations items)) ≡ true → Declares (write_present items)
  declared-items [] e = cc
  declared-items (tentative x ∷ rest) e =
      declared-by (is_on names x) x (Mark 59 ∷ []) (write_present rest) (list_any (is_on names) (object_names (declarations rest))) refl e
      (λ h. declared-items rest h)
  declared-items (valued x d ∷ rest) e =
      declared-by (is_on names x) x (Mark 61 ∷ Number d ∷ Mark 59 ∷ []) (write_present rest) (list_any (is_on names) (object_names (declarations rest))) refl e
      (λ h. declared-items rest h)
  declared-items (main_of c ∷ rest) e =
      behind-all (Int ∷ Main ∷ Mark 40 ∷ Void ∷ Mark 41 ∷ Mark 123 ∷ []) (behind-code c (behind-symbol (declared-items rest e)))

  -- `main` stands behind `int`, as a name does
  declared-main : (k : List Symbol) → is_on names (codes "main") ≡ true → Declares (Int ∷ Main ∷ k)
  declared-main k e = record { is = ap (λ b. begins (number_if b (codes "main") ∷ []) || declares (spelled (Main ∷ k))) e }

  abbrev main_name : List ℕ
  main_name = codes "main"

  main-declared : (items : List Item) (c : Code) (codes : List Code) → bodies (declarations items) ≡ c ∷ codes → is_on names main_name ≡ true → Declares (write_present items)
  main-declared [] c codes h e = cc
  main-declared (tentative x ∷ rest) c codes h e = behind-all (Int ∷ Name x ∷ Mark 59 ∷ []) (main-declared rest c codes h e)
  main-declared (valued x d ∷ rest) c codes h e = behind-all (Int ∷ Name x ∷ Mark 61 ∷ Number d ∷ Mark 59 ∷ []) (main-declared rest c codes h e)
  main-declared (main_of body ∷ rest) c codes h e = declared-main (Mark 40 ∷ Void ∷ Mark 41 ∷ Mark 123 ∷ write_code body (Mark 125 ∷ write_present rest)) e

  -- ---- tokens of the unit

  module _ (items : List Item) (tokens : List PlainToken) (same : spellings_of tokens ≡ unit_spellings names items) where
    pub putchar-declares : is_on names (codes "putchar") ≡ true → declare_number tokens ≡ true
    putchar-declares e =
        declares-same tokens ∙ ap declares same
        ∙ ap (λ b. begins (number_if b (codes "putchar") ∷ []) || declares (spelled (Putchar ∷ Mark 40 ∷ Int ∷ Mark 41 ∷ Mark 59 ∷ write_present items))) e

    unit-declares : Declares (write_present items) → declare_number tokens ≡ true
    unit-declares h =
        let unit = behind-all (Int ∷ Putchar ∷ Mark 40 ∷ Int ∷ Mark 41 ∷ Mark 59 ∷ []) h in
        declares-same tokens ∙ ap declares same ∙ unit.is

    pub main-declares : (c : Code) → bodies (declarations items) ≡ c ∷ [] → is_on names (codes "main") ≡ true → declare_number tokens ≡ true
    main-declares c once e = unit-declares (main-declared items c [] once e)

    pub objects-declare : list_any (is_on names) (object_names (declarations items)) ≡ true → declare_number tokens ≡ true
    objects-declare e = unit-declares (declared-items items e)
