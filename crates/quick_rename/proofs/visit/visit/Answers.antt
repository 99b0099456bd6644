use Rattle.std.proofs.Common.{◌≡◌, ◌≤◌, ◌+◌, ◌-◌, ◌++◌, ◌∷◌, Option, Some, None, length, refl, ◌∙◌, ap, subst, arith, length-append}
use Rattle.std.specs.Option.{IfNone, IfSome}
use Rattle.quick_form.specs.Places.{placed_line}
use Rattle.quick_rename.specs.Visits.{lines_in, StopsInLine}
use Rattle.quick_rename.proofs.Walk.{InFile, text_size, file_start, file_more, file_stop, follows, takes_all, smaller_text}
use Rattle.quick_rename.proofs.visit.visit.Goals as goal

pub loop-text-init : goal.loop-text-init
loop-text-init g c = record { words = refl; file = file_start g.V.Visitor.took c.args.visitor.now c.args.bytes.now; within = omega arith }

none_is : {X : Type 0} (o : Option X) (P : Type 0) → IfNone o P → o ≡ None → P
none_is o P h e = subst (λ m. IfNone m P) e h

some_is : {X : Type 0} (o : Option X) (P : X → Type 0) → IfSome o P → (x : X) → o ≡ Some x → P x
some_is o P h x e = subst (λ m. IfSome m P) e h

pub returns-in-Some-2-clause-visits : goal.returns-in-Some-2-clause-visits
returns-in-Some-2-clause-visits g c =
    let V = g.V.Visitor in
    let bytes = c.args.bytes.now in
    let text = c.in-Some.rest.now in
    let line = c.first_line.result.0.now in
    let more = c.first_line.result.1 in
    let file = subst (InFile V.took c.args.visitor.now c.loop-text.visitor bytes) c.in-Some.is c.loop-text.invariant.file in
    let size : length text + 1 ≤ length bytes + 1 = subst (λ t. text_size t ≤ length bytes + 1) c.in-Some.is c.loop-text.invariant.within in
    let f = follows text line more (none_is more _ c.first_line.ensures.last) (some_is more (λ m. text ≡ line ++ 10 ∷ m.now) c.first_line.ensures.more) in
    let len : length text ≡ length line + length f.behind = ap length f.joined ∙ length-append line f.behind in
    let offset = (length bytes - (length text - length line)) - length line in
    file_stop V.took V.refuses c.args.visitor.now c.loop-text.visitor c.visit_line.new.visitor bytes text line (lines_in more) offset c.in_ok-stop.field-0 c.in-Some-2.stop
    file (omega arith) c.first_line.ensures.lines c.first_line.ensures.one_line f (omega arith) c.in_ok-stop.ensures.visits c.in-Some-2.is

pub loop-text-preserved : goal.loop-text-preserved
loop-text-preserved g c =
    let V = g.V.Visitor in
    let bytes = c.args.bytes.now in
    let text = c.in-Some.rest.now in
    let line = c.first_line.result.0.now in
    let more = c.first_line.result.1 in
    let file = subst (InFile V.took c.args.visitor.now c.loop-text.visitor bytes) c.in-Some.is c.loop-text.invariant.file in
    let size : length text + 1 ≤ length bytes + 1 = subst (λ t. text_size t ≤ length bytes + 1) c.in-Some.is c.loop-text.invariant.within in
    let last = none_is more _ c.first_line.ensures.last in
    let next = some_is more (λ m. text ≡ line ++ 10 ∷ m.now) c.first_line.ensures.more in
    let f = follows text line more last next in
    let len : length text ≡ length line + length f.behind = ap length f.joined ∙ length-append line f.behind in
    let offset = (length bytes - (length text - length line)) - length line in
    let all = takes_all V.took V.refuses (StopsInLine line offset) c.loop-text.visitor c.visit_line.new.visitor (placed_line offset line) c.in_ok-stop.field-0 c.in_ok-stop.ensures.visits c.in_default-2.is in
    record {
      words = c.in_ok-stop.ensures.words ∙ c.loop-text.invariant.words;
      file = file_more V.took c.args.visitor.now c.loop-text.visitor c.visit_line.new.visitor bytes text line more offset file (omega arith) c.first_line.ensures.lines c.first_line.ensures.one_line last next (omega arith) all;
      within = smaller_text text line more (length bytes) last next (omega arith);
    }
