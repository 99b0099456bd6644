-- A walk at a directive line.
use Rattle.std.proofs.Common.{◌≡◌, Bool, true, List, [], ap, sym, ◌∙◌}
use Rattle.c_text.specs.Token.{PlainToken}
use Rattle.c_text.specs.Lines.{PlainLine}
use Rattle.c_text.specs.Trees.{role_of}
use Rattle.c_text.specs.Preprocessing.{Reading, Flow, Setting, on, then_read, read_run}
use Rattle.std.specs.Prelude.{if◌then◌else◌, Some}
use Rattle.file_walks.specs.Walk.{Walk, Open, by_role, step, text_read}
use Rattle.file_walks.specs.Nests.{Nest, nest_behind, behind_role}

pub step-directive : (s : Setting) (w v : Walk) (line : PlainLine) (next : Walk → Flow) → line.directive ≡ true → read_run w.reading w.run ≡ on v.reading → v.run ≡ [] → v.groups ≡ w.groups → by_role s (role_of line.tokens) v line next ≡ step s w line next
step-directive s w v line next directive flushed empty groups =
    let f = λ (after : Reading). by_role s (role_of line.tokens) (record { reading = after; run = []; groups = w.groups }) line next in
    let e : by_role s (role_of line.tokens) v line next ≡ f v.reading =
    ap (λ (run : List PlainToken). by_role s (role_of line.tokens) (record { reading = v.reading; run = run; groups = v.groups }) line next) empty
    ∙ ap (λ (gs : List Open). by_role s (role_of line.tokens) (record { reading = v.reading; run = []; groups = gs }) line next) groups
    in
    e ∙ ap (λ x. then_read x f) (sym flushed)
    ∙ ap (λ (b : Bool). if b then then_read (read_run w.reading w.run) f else next (text_read w line)) (sym directive)

pub behind-directive : (nest : Nest) (line : PlainLine) → line.directive ≡ true → behind_role (role_of line.tokens) nest ≡ nest_behind nest line
behind-directive nest line directive = ap (λ (b : Bool). if b then behind_role (role_of line.tokens) nest else Some nest) (sym directive)
