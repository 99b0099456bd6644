use Rattle.std.proofs.Common.{◌∙◌, ap, sym, option_map}
use Rattle.text_edits.specs.Files.{plain_files}
use Rattle.vector_cases.proofs.Lookups.{found-before, found-behind}
use Rattle.vector_cases.proofs.case.Case.wanted_at.Goals as goal

pub returns-in-Some : goal.returns-in-Some
returns-in-Some c =
    sym (found-before (plain_files c.args.self.now.written) (plain_files c.args.self.now.files) c.args.name.now c.in-Some.bytes.now
    (sym c.content.ensures ∙ ap (option_map (λ bytes. bytes.now)) c.in-Some.is))

pub returns-in-None : goal.returns-in-None
returns-in-None c =
    c.content-in-None.ensures
    ∙ sym (found-behind (plain_files c.args.self.now.written) (plain_files c.args.self.now.files) c.args.name.now
    (sym c.content.ensures ∙ ap (option_map (λ bytes. bytes.now)) c.in-None.is))
