use Rattle.project_file.specs.View.{project_view}
use Rattle.project_store.specs.States.{IsAbsent}
use Rattle.project_store.specs.Reads.{HasFault}
use Rattle.command_projects.proofs.Reading.{came_before, refusal_came}
use Rattle.project_refactorings.specs.Refactorings.{Does, CourseOn}
use Rattle.project_refactorings.proofs.Reading.{came_with_text, comes_to_text_fault, unread_text}
use Rattle.rename_words.specs.Steps.{query_of}
use Rattle.command_rename.specs.Rename.{renaming}
use Rattle.command_rename.specs.Steps.{OfText}
use Rattle.command_rename.proofs.renaming.of_query.Goals as goal

pub returns-in-Ok-clause-came : goal.returns-in-Ok-clause-came
returns-in-Ok-clause-came g c =
    let s = g.S.Store.state c.args.store.now in
    let q = query_of c.args.query.now in
    let text = c.in-Ok.text in
    came_with_text s q.project (CourseOn renaming q) text.bytes.items (project_view text.project) c.in_project.result c.in-Ok.ensures.text
    (came_before s (g.S.Store.state c.read_project_text.new.store) (OfText q text) c.in_project.result c.in-Ok.ensures.kept (g.met.S.Store.room_is_told c.args.store.now) c.in_project.ensures.came)

pub returns-in-Err-clause-came : goal.returns-in-Err-clause-came
returns-in-Err-clause-came g c =
    let s = g.S.Store.state c.args.store.now in
    let q = query_of c.args.query.now in
    let name = q.project in
    refusal_came (Does renaming q) s (HasFault s name) (IsAbsent s name) (comes_to_text_fault s name (CourseOn renaming q)) (unread_text s name (CourseOn renaming q)) c.in-Err.error
    c.without_project.result c.in-Err.ensures.text c.without_project.ensures
