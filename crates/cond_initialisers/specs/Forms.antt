-- What expressions that are no numbers are to first values by their forms, parentheses not counting (ISO/IEC 9899:2011, 6.6).
use Rattle.std.specs.Prelude.{codes, if◌then◌else◌}
use Rattle.std.specs.Str.{bytes_eq}
use Rattle.c_text.specs.Token.{PlainToken}
use Rattle.c_tree.specs.declared.kinds.Kind.TheVariants as k
use Rattle.c_tree.specs.declared.terminals.Terminal.TheVariants as t
use Rattle.c_tree.specs.Terminals.{terminal, same}
use Rattle.c_tree.specs.Trees.{PlainTree, leaf, node, none, more}
use Rattle.cond_initialisers.specs.declared.forms.Form.{Form}
use Rattle.cond_initialisers.specs.declared.forms.Form.TheVariants.{Name, Address, Other}

abbrev pub single : PlainToken → Form
single token = if same t.Name (terminal token) then Name else Other

-- `&` gives the address of a name
abbrev pub pointed : Form → Form
pointed Name = Address
pointed _ = Other

abbrev pub prefixed : PlainToken → Form → Form
prefixed sign inner = if bytes_eq sign.text (codes "&") then pointed inner else Other

abbrev pub signed : PlainTree → Form → Form
signed (leaf sign) inner = prefixed sign inner
signed (node kind parts) inner = Other

abbrev pub form_of : PlainTree → Form
form_of (leaf token) = single token
form_of (node k.Texts parts) = Address
form_of (node k.Parenthesized (more bracket (more inner (more close none)))) = form_of inner
form_of (node k.Prefix (more sign (more inner none))) = signed sign (form_of inner)
form_of (node kind parts) = Other
