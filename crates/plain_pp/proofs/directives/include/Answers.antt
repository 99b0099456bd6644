use Rattle.std.proofs.Common.{Option, length, subst}
use Rattle.std.specs.Prelude.{IfSome}
use Rattle.unit_files.specs.declared.inclusions.Source.{Source}
use Rattle.unit_files.specs.Inclusions.{IsAmong}
use Rattle.plain_pp.proofs.directives.include.Goals as goal

pub returns-clause-finds : goal.returns-clause-finds
returns-clause-finds c = record {
  may_include = c.if-not-place.false;
  among = subst (λ (o : Option Source). IfSome o (λ source. IsAmong (length c.args.place.now.headers.now) source)) c.in-Some.is c.in_ok-source.ensures.among;
}
