use Rattle.std.proofs.Common.{◌≡◌, List, sym, ap, ◌∙◌, subst}
use Rattle.std.specs.Prelude.{IsTrue}
use Rattle.std.proofs.lemmas.Slice.Eq.{bytes_eq-Decides}
use Rattle.text_edits.specs.Files.{plain_files}
use Rattle.project_file.specs.View.{project_view}
use Rattle.tied_tokens.specs.Tokens.{plain_file_token, plain_file_tokens}
use Rattle.tied_tokens.proofs.Members.{never}
use Rattle.project_classes.specs.Answers.{IsClassOf, IsAnswer}
use Rattle.rename_op.specs.declared.asked.Asked.{Asked}
use Rattle.rename_op.specs.Outcomes.{AreShown}
use Rattle.rename_op.specs.Asked.{IsAsked, BreaksIn, TellsFirst}
use Rattle.rename_op.proofs.Named.{stand-apart}
use Rattle.c_text.specs.declared.origin.FileToken.{FileToken}
use Rattle.reference_classes.specs.Preconditions.{in_macro_body, preconditions}
use Rattle.class_edits.specs.Listed.{StandApart}
use Rattle.rename_op.proofs.First.{unhindered}
use Rattle.rename_op.proofs.Answered.{has-files, nothing-found, named-class, class-of}
use Rattle.rename_op.proofs.operation.outcome_at.Goals as goal

pub returns-in_default : goal.returns-in_default
returns-in_default c = λ file offset holds.
    let view = project_view c.args.project.now in
    let files = plain_files c.args.files.now in
    let place = plain_file_token c.args.place.now in
    nothing-found view files place c.bytes_tell_tokens.ensures
    (subst (IsAnswer view files place) c.in_default.is (c.in_ok-class.ensures files c.requires.analysed.ties)) file offset holds

pub returns-then-eq : goal.returns-then-eq
returns-then-eq c = λ file offset holds.
    let view = project_view c.args.project.now in
    let files = plain_files c.args.files.now in
    let place = plain_file_token c.args.place.now in
    let answer : IsClassOf view files place c.in-Class.class.items = subst (IsAnswer view files place) c.in-Class.is (c.in_ok-class.ensures files c.requires.analysed.ties) in
    record {
      class = class-of view files place c.in-Class.class.items c.args.old.now;
      is_class = named-class view files place c.in-Class.class.items c.args.old.now answer c.requires.written file offset holds;
      same_name = (bytes_eq-Decides c.args.old.now c.args.new.now).0 (subst IsTrue c.eq.ensures c.if-eq.true);
    }

pub returns-in-FirstBroken : goal.returns-in-FirstBroken
returns-in-FirstBroken c = λ file offset holds.
    let view = project_view c.args.project.now in
    let files = plain_files c.args.files.now in
    let place = plain_file_token c.args.place.now in
    let answer : IsClassOf view files place c.in-Class.class.items = subst (IsAnswer view files place) c.in-Class.is (c.in_ok-class.ensures files c.requires.analysed.ties) in
    let seen = c.deref.result.now in
    let of_seen : IsClassOf view files place seen = subst (IsClassOf view files place) (sym c.deref.ensures.value) answer in
    let told = c.in_ok-answered.ensures place (record {
      has_files = has-files view c.args.files.now c.requires.named c.requires.few;
      analysed = c.requires.analysed;
      written = c.requires.written;
      found = of_seen.found;
      members = of_seen.members;
      in_order = of_seen.in_order;
      good = c.requires.good;
    }) in
    let asked : Asked = record { project = c.args.project; files = c.args.files; analysis = c.args.analysis; class = c.deref.result; old = c.args.old; new = c.args.new } in
    record {
      class = class-of view files place seen c.args.old.now;
      is_class = named-class view files place seen c.args.old.now of_seen c.requires.written file offset holds;
      other_name = λ same. never c.if-eq.false (subst IsTrue (sym c.eq.ensures) ((bytes_eq-Decides c.args.old.now c.args.new.now).1 same));
      first = subst (TellsFirst asked place preconditions) c.in-FirstBroken.is told;
    }

pub returns-in-Unbroken : goal.returns-in-Unbroken
returns-in-Unbroken c = λ file offset holds.
    let view = project_view c.args.project.now in
    let files = plain_files c.args.files.now in
    let place = plain_file_token c.args.place.now in
    let answer : IsClassOf view files place c.in-Class.class.items = subst (IsAnswer view files place) c.in-Class.is (c.in_ok-class.ensures files c.requires.analysed.ties) in
    let seen = c.deref.result.now in
    let of_seen : IsClassOf view files place seen = subst (IsClassOf view files place) (sym c.deref.ensures.value) answer in
    let asked : Asked = record { project = c.args.project; files = c.args.files; analysis = c.args.analysis; class = c.deref.result; old = c.args.old; new = c.args.new } in
    let is : IsAsked asked place = record {
      has_files = has-files view c.args.files.now c.requires.named c.requires.few;
      analysed = c.requires.analysed;
      written = c.requires.written;
      found = of_seen.found;
      members = of_seen.members;
      in_order = of_seen.in_order;
      good = c.requires.good;
    } in
    let shown : AreShown view (BreaksIn asked place) preconditions c.in-Unbroken.proofs.items = subst (TellsFirst asked place preconditions) c.in-Unbroken.is (c.in_ok-answered.ensures place is) in
    let free = unhindered asked place c.in-Unbroken.proofs.items shown in
    record {
      class = class-of view files place seen c.args.old.now;
      is_class = named-class view files place seen c.args.old.now of_seen c.requires.written file offset holds;
      tokens_are = ap plain_file_tokens c.deref.ensures.value;
      stand_apart =
          subst (λ (tokens : List FileToken). StandApart files (plain_file_tokens tokens)) c.deref.ensures.value
          (stand-apart asked place is (free in_macro_body) c.classes_stand_on_text_lines.ensures c.listed_stand_apart.ensures);
      other_name = λ same. never c.if-eq.false (subst IsTrue (sym c.eq.ensures) ((bytes_eq-Decides c.args.old.now c.args.new.now).1 same));
      unhindered = free;
      shown = shown;
    }
