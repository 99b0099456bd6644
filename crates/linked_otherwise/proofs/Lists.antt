-- Declarations of names with external linkage of which some get a new name: each is linked to what it was linked to exactly where no other
-- declaration has that name, and none is or was that of a built-in function.
use Rattle.std.proofs.Common.{◌≡◌, ℕ, Bool, true, false, List, [], ◌∷◌, map, refl, ap, ap₂, sym, ◌∙◌, inl, inr}
use Rattle.std.specs.Prelude.{◌⊎◌, ◌↔◌, Option, Some, None, if◌then◌else◌}
use Rattle.std.specs.Str.{bytes_eq}
use Rattle.std.proofs.lemmas.Bool.{false≢true}
use Rattle.std.proofs.lemmas.Option.{same_Some}
use Rattle.core_meaning.specs.declared.program.BuiltIn.{BuiltIn}
use Rattle.core_meaning.specs.declared.program.BuiltIn.TheVariants.{Putchar, Getchar, Puts, Exit}
use Rattle.core_meaning.specs.Linking.{built_in_named}
use Rattle.program_occurrences.specs.Links.{LinkedDeclaration, first_named, Link, link_to, or_first, links_among}
use Rattle.renamed_programs.proofs.Linking.{both_tests}
use Rattle.occurrence_names.proofs.Kept.{In, in-map}
use Rattle.program_names.proofs.Declared.{first_named_in}
use Rattle.linked_otherwise.specs.Otherwise.{name_after}

-- a declaration, and whether it is of the class
pub record Marked : Type 0 where
  pub declaration : LinkedDeclaration
  pub of_class : Bool

abbrev pub before : Marked → LinkedDeclaration
before m = m.declaration

abbrev pub after : List ℕ → Marked → LinkedDeclaration
after new m = record m.declaration { name = name_after new m.of_class m.declaration.name }

same-built-in : (x y : BuiltIn) → (x ≡ y) ⊎ (x ≡ y → ⊥)
same-built-in Putchar Putchar = inl refl
same-built-in Getchar Getchar = inl refl
same-built-in Puts Puts = inl refl
same-built-in Exit Exit = inl refl
same-built-in _ _ = inr (λ e. cc)

same-or-not : (x y : Option BuiltIn) → (x ≡ y) ⊎ (x ≡ y → ⊥)
same-or-not None None = inl refl
same-or-not None (Some y) = inr (λ e. cc)
same-or-not (Some x) None = inr (λ e. cc)
same-or-not (Some x) (Some y) = by (same-built-in x y)
  where
    by : (x ≡ y) ⊎ (x ≡ y → ⊥) → (Some x ≡ Some y) ⊎ (Some x ≡ Some y → ⊥)
    by (inl e) = inl (ap Some e)
    by (inr apart_) = inr (λ e. apart_ (same_Some x y e))

module _ (old new : List ℕ) where
  -- ---- what is known of them

  -- those of the class have the old name, and no other has it; one unit and one number tell one name
  pub record AreRenamable (all : List Marked) : Type 0 where
    pub named : (m : Marked) → In m all → m.of_class ≡ true → m.declaration.name ≡ old
    pub together : (m n : Marked) → In m all → In n all → m.declaration.name ≡ n.declaration.name → m.of_class ≡ n.of_class
    pub apart : (m n : Marked) → In m all → In n all → m.declaration.unit ≡ n.declaration.unit → m.declaration.number ≡ n.declaration.number → m.declaration.name ≡ n.declaration.name

  -- one that isn't of the class has the new name
  pub record IsTakenIn (all : List Marked) : Type 0 where
    pub other : Marked
    pub among : In other all
    pub outside : other.of_class ≡ false
    pub is_new : other.declaration.name ≡ new

  pub record AreLinkedOtherwise (all : List Marked) : Type 0 where
    pub one : Marked
    pub among : In one all
    pub inside : one.of_class ≡ true
    pub otherwise : IsTakenIn all ⊎ (built_in_named old ≡ built_in_named new → ⊥)

  abbrev linked-before : List Marked → LinkedDeclaration → Link
  linked-before all d = link_to d (or_first d (first_named d.name (map before all)))

  abbrev linked-after : List Marked → LinkedDeclaration → Link
  linked-after all d = link_to d (or_first d (first_named d.name (map (after new) all)))

  -- ---- what isn't linked otherwise is linked alike

  link-kept : (m x : Marked) → built_in_named m.declaration.name ≡ built_in_named (after new m).name → link_to (before m) (before x) ≡ link_to (after new m) (after new x)
  link-kept m x built =
      ap {B = Link} (λ (b : Option BuiltIn). record { unit = m.declaration.unit; number = m.declaration.number; first_unit = x.declaration.unit; first_number = x.declaration.number; built_in = b }) built

  -- where each is found by the one name as by the other
  first-kept :
      (m : Marked) (xs : List Marked) → built_in_named m.declaration.name ≡ built_in_named (after new m).name
      → ((x : Marked) → In x xs → bytes_eq x.declaration.name m.declaration.name ≡ bytes_eq (after new x).name (after new m).name)
      → linked-before xs (before m) ≡ linked-after xs (after new m)
  first-kept m [] built tests = link-kept m m built
  first-kept m (x ∷ xs) built tests =
      by (bytes_eq x.declaration.name m.declaration.name) (bytes_eq (after new x).name (after new m).name) (tests x (inl refl)) (first-kept m xs built (λ y among. tests y (inr among)))
    where
      by :
          (b c : Bool) → b ≡ c → linked-before xs (before m) ≡ linked-after xs (after new m)
          → link_to (before m) (or_first (before m) (if b then Some (before x) else first_named m.declaration.name (map before xs)))
          ≡ link_to (after new m) (or_first (after new m) (if c then Some (after new x) else first_named (after new m).name (map (after new) xs)))
      by true true e later = link-kept m x built
      by false false e later = later
      by true false e later = absurd (false≢true (sym e))
      by false true e later = absurd (false≢true e)

  -- so it is with the names of two that are renamable, where none is taken
  tests-kept :
      (all : List Marked) → AreRenamable all → (AreLinkedOtherwise all → ⊥) → (x m : Marked) → In x all → In m all
      → bytes_eq x.declaration.name m.declaration.name ≡ bytes_eq (after new x).name (after new m).name
  tests-kept all h alike x m i j = by x.of_class m.of_class refl refl
    where
      free : (x m : Marked) → In x all → In m all → x.of_class ≡ true → m.of_class ≡ false → new ≡ m.declaration.name → ⊥
      free x m i j inside outside e =
          alike (record { one = x; among = i; inside = inside; otherwise = inl (record { other = m; among = j; outside = outside; is_new = sym e }) })

      by : (b c : Bool) → x.of_class ≡ b → m.of_class ≡ c → bytes_eq x.declaration.name m.declaration.name ≡ bytes_eq (name_after new b x.declaration.name) (name_after new c m.declaration.name)
      by true true e f = both_tests x.declaration.name m.declaration.name new new (λ same. refl) (λ same. h.named x i e ∙ sym (h.named m j f))
      by false false e f = refl
      by true false e f =
          both_tests x.declaration.name m.declaration.name new m.declaration.name (λ same. absurd (false≢true (sym f ∙ sym (h.together x m i j same) ∙ e))) (λ same. absurd (free x m i j e f same))
      by false true e f =
          both_tests x.declaration.name m.declaration.name x.declaration.name new (λ same. absurd (false≢true (sym e ∙ h.together x m i j same ∙ f))) (λ same. absurd (free m x j i f e (sym same)))

  built-in-kept : (all : List Marked) → AreRenamable all → (AreLinkedOtherwise all → ⊥) → (m : Marked) → In m all → built_in_named m.declaration.name ≡ built_in_named (after new m).name
  built-in-kept all h alike m i = by m.of_class refl
    where
      same : m.of_class ≡ true → (built_in_named old ≡ built_in_named new) ⊎ (built_in_named old ≡ built_in_named new → ⊥) → built_in_named m.declaration.name ≡ built_in_named new
      same e (inl built) = ap built_in_named (h.named m i e) ∙ built
      same e (inr apart_) = absurd (alike (record { one = m; among = i; inside = e; otherwise = inr apart_ }))

      by : (b : Bool) → m.of_class ≡ b → built_in_named m.declaration.name ≡ built_in_named (name_after new b m.declaration.name)
      by true e = same e (same-or-not (built_in_named old) (built_in_named new))
      by false e = refl

  all-kept :
      (all xs : List Marked) → ((m : Marked) → In m xs → linked-before all (before m) ≡ linked-after all (after new m))
      → map (linked-before all) (map before xs) ≡ map (linked-after all) (map (after new) xs)
  all-kept all [] each = refl
  all-kept all (x ∷ xs) each = ap₂ (λ (l : Link) (ls : List Link). l ∷ ls) (each x (inl refl)) (all-kept all xs (λ m among. each m (inr among)))

  links-kept : (all : List Marked) → AreRenamable all → (AreLinkedOtherwise all → ⊥) → links_among (map before all) ≡ links_among (map (after new) all)
  links-kept all h alike =
      all-kept all all (λ m among. first-kept m all (built-in-kept all h alike m among) (λ x i. tests-kept all h alike x m i among))

  -- ---- what is linked alike isn't linked otherwise

  each-link :
      (all xs : List Marked) → map (linked-before all) (map before xs) ≡ map (linked-after all) (map (after new) xs) → (m : Marked) → In m xs
      → linked-before all (before m) ≡ linked-after all (after new m)
  each-link all [] e m among = absurd among
  each-link all (x ∷ xs) e m (inl is) =
      let first : linked-before all (before x) ≡ linked-after all (after new x) = cc in
      ap (λ (y : Marked). linked-before all (before y)) is ∙ first ∙ ap (λ (y : Marked). linked-after all (after new y)) (sym is)
  each-link all (x ∷ xs) e m (inr among) =
      let rest : map (linked-before all) (map before xs) ≡ map (linked-after all) (map (after new) xs) = cc in
      each-link all xs rest m among

  after-name : (m : Marked) (b : Bool) → m.of_class ≡ b → (after new m).name ≡ name_after new b m.declaration.name
  after-name m b e = ap (λ (c : Bool). name_after new c m.declaration.name) e

  -- the one that comes first among those of a name
  record Source (all : List Marked) (d : LinkedDeclaration) : Type 0 where
    source : Marked
    among : In source all
    is : before source ≡ d

  source-of : (all : List Marked) (d : LinkedDeclaration) → In d (map before all) → Source all d
  source-of [] d among = absurd among
  source-of (x ∷ xs) d (inl e) = record { source = x; among = inl refl; is = sym e }
  source-of (x ∷ xs) d (inr among) = let s = source-of xs d among in record { source = s.source; among = inr s.among; is = s.is }

  module _ (all : List Marked) (h : AreRenamable all) (same : links_among (map before all) ≡ links_among (map (after new) all)) where
    -- what has one name after had one before
    one-name : (m n : Marked) → In m all → In n all → (after new m).name ≡ (after new n).name → m.declaration.name ≡ n.declaration.name
    one-name m n i j e =
        let f = first_named_in (before m) (map before all) (in-map before m all i) in
        let g = first_named_in (before n) (map before all) (in-map before n all j) in
        let x = first_named_in (after new m) (map (after new) all) (in-map (after new) m all i) in
        let y = first_named_in (after new n) (map (after new) all) (in-map (after new) n all j) in
        let s = source-of all f.first f.among in
        let t = source-of all g.first g.among in
        let one : x.first ≡ y.first = same_Some x.first y.first (sym x.found ∙ ap (λ (name : List ℕ). first_named name (map (after new) all)) e ∙ y.found) in
        let left : link_to (before m) f.first ≡ link_to (after new m) x.first =
        ap (λ (o : Option LinkedDeclaration). link_to (before m) (or_first (before m) o)) (sym f.found) ∙ each-link all all same m i ∙ ap (λ (o : Option LinkedDeclaration). link_to (after new m) (or_first (after new m) o)) x.found in
        let right : link_to (before n) g.first ≡ link_to (after new n) y.first =
        ap (λ (o : Option LinkedDeclaration). link_to (before n) (or_first (before n) o)) (sym g.found) ∙ each-link all all same n j ∙ ap (λ (o : Option LinkedDeclaration). link_to (after new n) (or_first (after new n) o)) y.found in
        let unit : s.source.declaration.unit ≡ t.source.declaration.unit =
        ap (λ (d : LinkedDeclaration). d.unit) s.is ∙ ap (λ (l : Link). l.first_unit) left ∙ ap (λ (d : LinkedDeclaration). d.unit) one ∙ sym (ap (λ (l : Link). l.first_unit) right) ∙ sym (ap (λ (d : LinkedDeclaration). d.unit) t.is) in
        let number : s.source.declaration.number ≡ t.source.declaration.number =
        ap (λ (d : LinkedDeclaration). d.number) s.is ∙ ap (λ (l : Link). l.first_number) left ∙ ap (λ (d : LinkedDeclaration). d.number) one ∙ sym (ap (λ (l : Link). l.first_number) right) ∙ sym (ap (λ (d : LinkedDeclaration). d.number) t.is) in
        sym f.named ∙ ap (λ (d : LinkedDeclaration). d.name) (sym s.is) ∙ h.apart s.source t.source s.among t.among unit number ∙ ap (λ (d : LinkedDeclaration). d.name) t.is ∙ g.named

    not-taken : (m : Marked) → In m all → m.of_class ≡ true → IsTakenIn all → ⊥
    not-taken m i inside t =
        let one : (after new m).name ≡ (after new t.other).name = after-name m true inside ∙ sym (after-name t.other false t.outside ∙ t.is_new) in
        false≢true (sym t.outside ∙ sym (h.together m t.other i t.among (one-name m t.other i t.among one)) ∙ inside)

    not-otherwise : AreLinkedOtherwise all → ⊥
    not-otherwise o = by o.otherwise
      where
        built : built_in_named old ≡ built_in_named new
        built = ap built_in_named (sym (h.named o.one o.among o.inside)) ∙ ap (λ (l : Link). l.built_in) (each-link all all same o.one o.among) ∙ ap built_in_named (after-name o.one true o.inside)

        by : IsTakenIn all ⊎ (built_in_named old ≡ built_in_named new → ⊥) → ⊥
        by (inl t) = not-taken o.one o.among o.inside t
        by (inr apart_) = apart_ built

  pub lists-told : (all : List Marked) → AreRenamable all → (links_among (map before all) ≡ links_among (map (after new) all)) ↔ (AreLinkedOtherwise all → ⊥)
  lists-told all h = (not-otherwise all h, links-kept all h)
