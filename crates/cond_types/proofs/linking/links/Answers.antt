use Rattle.std.proofs.Common.{Bool, List, IsTrue, ap, ◌∙◌, sym, subst}
use Rattle.cond_formula.specs.Features.{has}
use Rattle.cond_formula.specs.Conditions.{value}
use Rattle.core_meaning.specs.Linking.{Units}
use Rattle.link_faults.specs.declared.left.LeftUnit.{LeftUnit}
use Rattle.link_faults.specs.SeenUnits.{LeaveAlike}
use Rattle.cond_types.specs.Typed.{IsLinkable}
use Rattle.cond_types.proofs.linking.links.Goals as goal

there : (g : _) (c : goal.After-drop-alike-2 g) (c' : List Bool) → IsTrue (value (has c') (g.O.Oracle.admits c.args.oracle.now)) → IsTrue (value (has c') (g.O.Oracle.admits c.alike_structs.new.oracle))
there g c c' admitted = ap (value (has c')) c.in_ok-alike.ensures.kept ∙ admitted

leave : (g : _) (c : goal.After-drop-alike-2 g) (c' : List Bool) (linked : Units) (is : IsLinkable (has c') linked c.args.t.now) → LeaveAlike (has c') c.args.t.now.tables is.by linked c.deref.result.now
leave g c c' linked is = subst (λ (units : List LeftUnit). LeaveAlike (has c') c.args.t.now.tables is.by linked units) (sym c.deref.ensures.value) is.leave

pub returns-clause-fails : goal.returns-clause-fails
returns-clause-fails g c = λ c' linked admitted is x. c.in_ok-refused.ensures.fails c' is.by linked (there g c c' admitted) (leave g c c' linked is) is.structs x

pub returns-clause-links : goal.returns-clause-links
returns-clause-links g c = λ c' linked admitted is x. c.in_ok-refused.ensures.links c' is.by linked (there g c c' admitted) (leave g c c' linked is) is.structs x
