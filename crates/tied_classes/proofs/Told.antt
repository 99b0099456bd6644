-- What is reached along ties is what tokens bring along in products.
use Rattle.std.proofs.Common.{◌≡◌, Bool, List, take, length, Some, refl, sym, ap, subst, ◌∙◌}
use Rattle.std.specs.Prelude.{Contains, IsTrue}
use Rattle.std.proofs.lemmas.List.Elements.{All-contains}
use Rattle.text_edits.specs.Files.{PlainFile}
use Rattle.cond_formula.specs.Features.{has}
use Rattle.cond_formula.specs.Conditions.{Condition, value, VarsBelow}
use Rattle.project_file.specs.Projects.{PlainProject}
use Rattle.command_projects.specs.Least.{IsAdmitted, Somewhere}
use Rattle.program_occurrences.specs.Occurrences.{UnitNames, declares_itself, OccursIn, CommonName, common_name}
use Rattle.program_occurrences.specs.Classes.{PlainFileToken, copied_by, file_token, declaring_token, Brings, by_declaration, by_occurrence, by_name, itself, brought}
use Rattle.program_occurrences.specs.Laws.{DeclarationsAreOccurrences, TokensBringBack}
use Rattle.reference_classes.specs.Products.{Product, names_in, InClass}
use Rattle.reference_classes.specs.Preconditions.{IsFound}
use Rattle.tied_tokens.specs.Ties.{PlainTie, PlainDeclaredName, PlainTiedTokens}
use Rattle.tied_tokens.specs.Reached as tied
use Rattle.tied_tokens.specs.Reached.{IsAccepted, IsTied, to_declaration, to_identifier, AreTied, IsReached, further, OccursSomewhere}
use Rattle.tied_classes.specs.Told.{IsDeclaredBy, DeclaresName, Ties, Names, TellsProducts}
use Rattle.tied_classes.specs.Laws.{ReachedAreClass, OccurrencesAreTold}
use Rattle.tied_classes.proofs.Numbers.{declared_by_one}
use Rattle.tied_classes.proofs.Features.{has_none, same_within}

module _ (project : PlainProject) (files : List PlainFile) (all : PlainTiedTokens) (tells : TellsProducts project files all) where
  -- ---- a configuration and the one with the project's features alone

  abbrev own : List Bool → List Bool
  own c = take (length project.features) c

  as_true : (c : List Bool) (condition : Condition) → VarsBelow (length project.features) condition → IsTrue (value (has c) condition) → IsTrue (value (has (own c)) condition)
  as_true c condition below holds = same_within (length project.features) c condition below ∙ holds

  own_admitted : (c : List Bool) → IsAccepted all c → IsAdmitted project (own c)
  own_admitted c is = record {
    within = λ feature past. has_none (length project.features) c feature past;
    admitted = subst (λ (model : Condition). IsTrue (value (has (own c)) model)) tells.model (as_true c all.admitted tells.features.admitted is.admitted);
  }

  product_of : (c : List Bool) → IsAccepted all c → Product project files (own c)
  product_of c is = (tells.accepted (own c) (own_admitted c is)).0 (as_true c all.accepted tells.features.accepted is.accepted)

  accepted_of : (c : List Bool) → Product project files c → IsAccepted all c
  accepted_of c product = record {
    admitted = subst (λ (model : Condition). IsTrue (value (has c) model)) (sym tells.model) product.admitted.admitted;
    accepted = (tells.accepted c product.admitted).1 product;
  }

  tie_below : (tie : PlainTie) → Contains all.ties tie → VarsBelow (length project.features) tie.when
  tie_below tie among = All-contains (λ (t : PlainTie). VarsBelow (length project.features) t.when) all.ties tie tells.features.ties among

  name_below : (n : PlainDeclaredName) → Contains all.names n → VarsBelow (length project.features) n.when
  name_below n among = All-contains (λ (m : PlainDeclaredName). VarsBelow (length project.features) m.when) all.names n tells.features.names among

  declared_of :
      (c : List Bool) (is : IsAccepted all c) (tie : PlainTie) → Contains all.ties tie → IsTrue (value (has c) tie.when)
      → IsDeclaredBy (names_in (product_of c is)) tie.identifier tie.declared_by
  declared_of c is tie among holds =
      (tells.ties (own c) (product_of c is) tie.identifier tie.declared_by).0
      (record { tie = tie; among = among; holds = as_true c tie.when (tie_below tie among) holds; identifier_is = refl; declared_by_is = refl })

  -- ---- what is reached is of the class

  module _ (back : TokensBringBack) where
    along : (units : List UnitNames) (a b : PlainFileToken) → IsDeclaredBy units a b → Brings units a b
    along units a b d =
        subst (λ (x : PlainFileToken). Brings units x b) d.identifier_is
        (subst (λ (y : PlainFileToken). Brings units (file_token d.found.occurrence) y) d.declared_by_is (by_declaration d.found))

    by_one_name :
        (units : List UnitNames) (a b : PlainFileToken) (name other : CommonName) → name ≡ other → DeclaresName units a name → DeclaresName units b other
        → Brings units a b
    by_one_name units a b name other same p q =
        subst (λ (x : PlainFileToken). Brings units x b) p.token_is
        (subst (λ (y : PlainFileToken). Brings units (file_token p.found.occurrence) y) q.token_is
        (by_name p.found q.found name p.itself q.itself p.name_is (q.name_is ∙ ap Some (sym same))))

    declares : (c : List Bool) (is : IsAccepted all c) (n : PlainDeclaredName) → Contains all.names n → IsTrue (value (has c) n.when) → DeclaresName (names_in (product_of c is)) n.token n.name
    declares c is n among holds =
        (tells.names (own c) (product_of c is) n.token n.name).0
        (record { entry = n; among = among; holds = as_true c n.when (name_below n among) holds; token_is = refl; name_is = refl })

    brings_of : (c : List Bool) (is : IsAccepted all c) {a b : PlainFileToken} → IsTied all c a b → Brings (names_in (product_of c is)) a b
    brings_of c is (to_declaration tie among holds) = along (names_in (product_of c is)) tie.identifier tie.declared_by (declared_of c is tie among holds)
    brings_of c is (to_identifier tie among holds) =
        back (names_in (product_of c is)) tie.identifier tie.declared_by (along (names_in (product_of c is)) tie.identifier tie.declared_by (declared_of c is tie among holds))
    brings_of c is (tied.by_name a b first second same here there) =
        by_one_name (names_in (product_of c is)) a.token b.token a.name b.name same (declares c is a first here) (declares c is b second there)

    class_of_reached : {place token : PlainFileToken} → IsReached all place token → InClass project files place token
    class_of_reached tied.itself = itself
    class_of_reached (further inner step) =
        let product = product_of step.configuration step.is_accepted in
        brought (names_in product) (record { configuration = own step.configuration; product = product; same = refl }) (class_of_reached inner)
        (brings_of step.configuration step.is_accepted step.tied)

  -- ---- the class is reached

  module _ (declared : DeclarationsAreOccurrences) where
    module _ (c : List Bool) (product : Product project files c) where
      tie_of : (o : OccursIn (names_in product)) → Ties all c (file_token o.occurrence) (declaring_token o.occurrence)
      tie_of o =
          (tells.ties c product (file_token o.occurrence) (declaring_token o.occurrence)).1
          (record { found = o; identifier_is = refl; declared_by_is = refl })

      to_what_declares : (o : OccursIn (names_in product)) → AreTied all (file_token o.occurrence) (declaring_token o.occurrence)
      to_what_declares o =
          let t = tie_of o in
          record {
            configuration = c;
            is_accepted = accepted_of c product;
            tied = subst (λ (x : PlainFileToken). IsTied all c x (declaring_token o.occurrence)) t.identifier_is
                (subst (λ (y : PlainFileToken). IsTied all c t.tie.identifier y) t.declared_by_is (to_declaration t.tie t.among t.holds));
          }

      to_what_is_declared : (o : OccursIn (names_in product)) → AreTied all (declaring_token o.occurrence) (file_token o.occurrence)
      to_what_is_declared o =
          let t = tie_of o in
          record {
            configuration = c;
            is_accepted = accepted_of c product;
            tied = subst (λ (y : PlainFileToken). IsTied all c (declaring_token o.occurrence) y) t.identifier_is
                (subst (λ (x : PlainFileToken). IsTied all c x t.tie.identifier) t.declared_by_is (to_identifier t.tie t.among t.holds));
          }

      one_declaration :
          (o p : OccursIn (names_in product)) → o.place ≡ p.place → o.occurrence.declared_by.number ≡ p.occurrence.declared_by.number
          → declaring_token o.occurrence ≡ declaring_token p.occurrence
      one_declaration o p place number = ap copied_by (declared_by_one declared product.is_program.trees o p place number)

      name_of :
          (o : OccursIn (names_in product)) (name : CommonName) → IsTrue (declares_itself o.occurrence) → common_name o.unit o.occurrence.identifier ≡ Some name
          → Names all c (file_token o.occurrence) name
      name_of o name self is =
          (tells.names c product (file_token o.occurrence) name).1 (record { found = o; itself = self; token_is = refl; name_is = is })

      to_same_name : (a b : PlainFileToken) (name : CommonName) → Names all c a name → Names all c b name → AreTied all a b
      to_same_name a b name n m = record {
        configuration = c;
        is_accepted = accepted_of c product;
        tied = subst (λ (x : PlainFileToken). IsTied all c x b) n.token_is
            (subst (λ (y : PlainFileToken). IsTied all c n.entry.token y) m.token_is
            (tied.by_name n.entry m.entry n.among m.among (n.name_is ∙ sym m.name_is) n.holds m.holds));
      }

      reached_on : {place a b : PlainFileToken} → Brings (names_in product) a b → IsReached all place a → IsReached all place b
      reached_on (by_declaration o) h = further h (to_what_declares o)
      reached_on {place} (by_occurrence o p at number) h =
          further (subst (IsReached all place) (one_declaration o p at number) (further h (to_what_declares o))) (to_what_is_declared p)
      reached_on (by_name o p name first second here there) h =
          further h (to_same_name (file_token o.occurrence) (file_token p.occurrence) name (name_of o name first here) (name_of p name second there))

    reached_of_class : {place token : PlainFileToken} → InClass project files place token → IsReached all place token
    reached_of_class itself = tied.itself
    reached_of_class (brought {member = member} {other = other} units are inner brings) =
        reached_on are.configuration are.product (subst (λ (us : List UnitNames). Brings us member other) are.same brings) (reached_of_class inner)

  -- ---- whether there is an occurrence

  found_of : (place : PlainFileToken) → OccursSomewhere all place → Somewhere project (IsFound project files place)
  found_of place h =
      let p = h.occurs.possible in
      let d = declared_of p.configuration p.is_accepted h.tie h.among p.holds in
      record {
        witness = own p.configuration;
        admitted = own_admitted p.configuration p.is_accepted;
        holds = record { product = product_of p.configuration p.is_accepted; found = d.found; there = d.identifier_is ∙ h.occurs.there };
      }

  occurrence_of : (place : PlainFileToken) → Somewhere project (IsFound project files place) → OccursSomewhere all place
  occurrence_of place s =
      let f = s.holds in
      let t = (tells.ties s.witness f.product (file_token f.found.occurrence) (declaring_token f.found.occurrence)).1 (record { found = f.found; identifier_is = refl; declared_by_is = refl }) in
      record {
        tie = t.tie;
        among = t.among;
        occurs = record {
          there = t.identifier_is ∙ f.there;
          possible = record { configuration = s.witness; is_accepted = accepted_of s.witness f.product; holds = t.holds };
        };
      }

pub reached_are_class : TokensBringBack → DeclarationsAreOccurrences → ReachedAreClass
reached_are_class back declared project files all tells place token =
    (λ h. class_of_reached project files all tells back h, λ h. reached_of_class project files all tells declared h)

pub occurrences_are_told : OccurrencesAreTold
occurrences_are_told project files all tells place = (λ h. found_of project files all tells place h, λ h. occurrence_of project files all tells place h)
