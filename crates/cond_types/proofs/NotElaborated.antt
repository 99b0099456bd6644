-- Where trees have no core program, by how they are judged.
use Rattle.std.proofs.Common.{◌≡◌, ℕ, Bool, true, false, ◌||◌, List, refl, sym, subst, ◌∙◌}
use Rattle.cond_formula.specs.Conditions.{condition_of, value}
use Rattle.c_tree.specs.Trees.{PlainTree}
use Rattle.core_meaning.specs.Checking.{Checked, Binding, fine, refused, broken}
use Rattle.core_meaning.specs.Program.{PlainProgram}
use Rattle.core_meaning.specs.Linking.{Units, Links, judged_program, program_of, IsFault, IsElaborated}
use Rattle.link_faults.specs.Faulty.{FailToLink}
use Rattle.cond_types.specs.declared.typing.CondTypes.{CondTypes}
use Rattle.cond_types.specs.Typed.{IsLinkable, IsTypedAs}
use Rattle.cond_types.specs.Elaborated.{TellsElaborated}

module _ (on : ℕ → Bool) (trees : List PlainTree) (t : CondTypes) (unlinked : Bool) (fails : (linked : Units) → IsLinkable on linked t → unlinked ≡ true → FailToLink linked) (links : (linked : Units) → IsLinkable on linked t → unlinked ≡ false → Links linked) where
  not_linked : (linked : Units) (bindings : List Binding) (program : PlainProgram) → judged_program trees ≡ fine linked bindings → FailToLink linked → IsElaborated trees program → ⊥
  not_linked linked bindings program judged fault is =
      let both : fine linked bindings ≡ fine is.linked is.bindings = sym judged ∙ is.judged in
      let same : linked ≡ is.linked = cc in
      let well = is.links in
      well.no_fault fault.kind fault.name (subst (λ (l : Units). IsFault l fault.kind fault.name) same fault.fault)

  judged_well : (u : Bool) (linked : Units) (bindings : List Binding) → unlinked ≡ u → judged_program trees ≡ fine linked bindings → IsLinkable on linked t → TellsElaborated u trees
  judged_well true linked bindings e judged linkable = λ program is. not_linked linked bindings program judged (fails linked linkable e) is
  judged_well false linked bindings e judged linkable =
      (program_of trees linked, record { linked = linked; bindings = bindings; judged = judged; links = links linked linkable e; program = refl })

  by_judgement : (j : Checked Units) → judged_program trees ≡ j → IsTypedAs on j t → TellsElaborated (value on (condition_of t.refused) || unlinked) trees
  by_judgement (fine linked bindings) judged typed = subst (λ b. TellsElaborated (b || unlinked) trees) (sym typed.0) (judged_well unlinked linked bindings refl judged typed.1)
  by_judgement (refused kind token) judged typed =
      subst (λ b. TellsElaborated (b || unlinked) trees) (sym typed)
      (λ program is. let both : refused kind token ≡ fine is.linked is.bindings = sym judged ∙ is.judged in cc)
  by_judgement broken judged typed =
      subst (λ b. TellsElaborated (b || unlinked) trees) (sym typed)
      (λ program is. let both : ◌≡◌ {A = Checked Units} broken (fine is.linked is.bindings) = sym judged ∙ is.judged in cc)

  pub tells_elaborated : IsTypedAs on (judged_program trees) t → TellsElaborated (value on (condition_of t.refused) || unlinked) trees
  tells_elaborated typed = by_judgement (judged_program trees) refl typed
