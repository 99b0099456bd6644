use Rattle.std.proofs.Common.{arith}
use Rattle.unit_files.proofs.PathLemmas.{folder-left}
use Rattle.unit_files.proofs.inclusions.leave_file.Goals as goal

pub returns : goal.returns
returns c =
    folder-left (λ part. part.now) c.args.parts.now.items c.pop.new.self.items c.pop.result _ _ c.pop.ensures.items (omega (arith, c.pop.new.self.ok.0)) c.pop.ensures.cases
