-- Tables whose strings are short stay so as keys and headers define more.
use Rattle.std.proofs.Common.{ℕ, List, [], ◌∷◌, Option, Some, None, Ordering, Less, Equal, Greater, nat_cmp}
use Rattle.std.specs.Prelude.{⊤}
use Rattle.std.specs.Ordering.{match_ordering}
use Rattle.std.specs.Cmp.Lexicographic.{slice_cmp}
use Rattle.toml_parser.specs.Strings.{Key}
use Rattle.toml.specs.Data.{Data, string, integer, float, boolean, datetime, array, table, Items, no_items, item, Members, no_members, member, get_member, same_key, push_item}
use Rattle.toml.specs.Tables.{implicit, dotted, header, Node, value, open_table, open_array, Nodes, no_nodes, node, get_node, insert, replace, close_node, close, Edit, header_node, dot_node, by_header, by_dot, along_header, along_dots, Definition, key_value, std_table, array_table, new_node, redefine, at_found, at_key, put}
use Rattle.file_outcomes.proofs.TomlStrings.{chosen, Holds, mapped, IsString}

module _ (limit : ℕ) where
  abbrev mutual
    pub FitsData : Data → Type 0
    FitsData (string bytes) = IsString limit bytes
    FitsData (array items) = FitsItems items
    FitsData (table members) = FitsMembers members
    FitsData (integer z) = ⊤
    FitsData (float x) = ⊤
    FitsData (boolean b) = ⊤
    FitsData (datetime d) = ⊤

    pub FitsItems : Items → Type 0
    FitsItems no_items = ⊤
    FitsItems (item datum rest) = FitsData datum × FitsItems rest

    pub FitsMembers : Members → Type 0
    FitsMembers no_members = ⊤
    FitsMembers (member key datum rest) = FitsData datum × FitsMembers rest

  abbrev mutual
    pub FitsNode : Node → Type 0
    FitsNode (value datum) = FitsData datum
    FitsNode (open_table origin inner) = FitsNodes inner
    FitsNode (open_array done last) = FitsItems done × FitsNodes last

    pub FitsNodes : Nodes → Type 0
    FitsNodes no_nodes = ⊤
    FitsNodes (node key x rest) = FitsNode x × FitsNodes rest

  pub pushed : (items : Items) (datum : Data) → FitsItems items → FitsData datum → FitsItems (push_item items datum)
  pushed no_items datum h k = (k, tt)
  pushed (item first rest) datum h k = (h.0, pushed rest datum h.1 k)

  mutual
    closed_node : (x : Node) → FitsNode x → FitsData (close_node x)
    closed_node (value datum) h = h
    closed_node (open_table origin inner) h = closed inner h
    closed_node (open_array done last) h = pushed done (table (close last)) h.0 (closed last h.1)

    pub closed : (ns : Nodes) → FitsNodes ns → FitsMembers (close ns)
    closed no_nodes h = tt
    closed (node key x rest) h = (closed_node x h.0, closed rest h.1)

  got : (k : List ℕ) (ns : Nodes) → FitsNodes ns → Holds FitsNode (get_node k ns)
  got k no_nodes h = tt
  got k (node l x ns) h = chosen (Holds FitsNode) (same_key k l) (Some x) (get_node k ns) h.0 (got k ns h.1)

  pub ordered : {X : Type 0} (P : X → Type 0) (o : Ordering) (a b c : X) → P a → P b → P c → P (match_ordering o a b c)
  ordered P Less a b c x y z = x
  ordered P Equal a b c x y z = y
  ordered P Greater a b c x y z = z

  inserted : (k : List ℕ) (x : Node) (ns : Nodes) → FitsNode x → FitsNodes ns → FitsNodes (insert k x ns)
  inserted k x no_nodes f h = (f, tt)
  inserted k x (node l y ns) f h =
      ordered FitsNodes (slice_cmp nat_cmp k l) (node k x (node l y ns)) (node l x ns) (node l y (insert k x ns)) (f, h) (f, h.1) (h.0, inserted k x ns f h.1)

  replaced : (k : List ℕ) (x : Node) (ns : Nodes) → FitsNode x → FitsNodes ns → FitsNodes (replace k x ns)
  replaced k x no_nodes f h = tt
  replaced k x (node l y ns) f h = chosen FitsNodes (same_key k l) (node l x ns) (node l y (replace k x ns)) (f, h.1) (h.0, replaced k x ns f h.1)

  -- an edit that keeps strings short
  abbrev pub Keeps : Edit → Type 0
  Keeps edit = (ns : Nodes) → FitsNodes ns → Holds FitsNodes (edit ns)

  by_header_keeps : (k : List ℕ) (edit : Edit) (ns : Nodes) (o : Option Node) → Keeps edit → FitsNodes ns → Holds FitsNode o → Holds FitsNodes (by_header k edit ns o)
  by_header_keeps k edit ns None e h f = mapped FitsNodes FitsNodes (λ new. insert k (open_table implicit new) ns) (edit no_nodes) (e no_nodes tt) (λ new g. inserted k (open_table implicit new) ns g h)
  by_header_keeps k edit ns (Some x) e h f = mapped FitsNode FitsNodes (λ new. replace k new ns) (header_node edit x) (inner x f) (λ new g. replaced k new ns g h)
    where
      inner : (x : Node) → FitsNode x → Holds FitsNode (header_node edit x)
      inner (value datum) f = tt
      inner (open_table origin ns) f = mapped FitsNodes FitsNode (open_table origin) (edit ns) (e ns f) (λ new g. g)
      inner (open_array done last) f = mapped FitsNodes FitsNode (open_array done) (edit last) (e last f.1) (λ new g. (f.0, g))

  by_dot_keeps : (k : List ℕ) (edit : Edit) (ns : Nodes) (o : Option Node) → Keeps edit → FitsNodes ns → Holds FitsNode o → Holds FitsNodes (by_dot k edit ns o)
  by_dot_keeps k edit ns None e h f = mapped FitsNodes FitsNodes (λ new. insert k (open_table dotted new) ns) (edit no_nodes) (e no_nodes tt) (λ new g. inserted k (open_table dotted new) ns g h)
  by_dot_keeps k edit ns (Some x) e h f = mapped FitsNode FitsNodes (λ new. replace k new ns) (dot_node edit x) (inner x f) (λ new g. replaced k new ns g h)
    where
      inner : (x : Node) → FitsNode x → Holds FitsNode (dot_node edit x)
      inner (value datum) f = tt
      inner (open_table header ns) f = tt
      inner (open_table implicit ns) f = mapped FitsNodes FitsNode (open_table dotted) (edit ns) (e ns f) (λ new g. g)
      inner (open_table dotted ns) f = mapped FitsNodes FitsNode (open_table dotted) (edit ns) (e ns f) (λ new g. g)
      inner (open_array done last) f = tt

  pub header_keeps : (path : List (List ℕ)) (edit : Edit) → Keeps edit → Keeps (along_header path edit)
  unfolding along_header
  header_keeps [] edit e ns h = e ns h
  header_keeps (k ∷ path) edit e ns h = by_header_keeps k (along_header path edit) ns (get_node k ns) (header_keeps path edit e) h (got k ns h)

  dots_keep : (path : List (List ℕ)) (edit : Edit) → Keeps edit → Keeps (along_dots path edit)
  unfolding along_dots
  dots_keep [] edit e ns h = e ns h
  dots_keep (k ∷ path) edit e ns h = by_dot_keeps k (along_dots path edit) ns (get_node k ns) (dots_keep path edit e) h (got k ns h)

  abbrev pub FitsDefinition : Definition → Type 0
  FitsDefinition (key_value datum) = FitsData datum
  FitsDefinition std_table = ⊤
  FitsDefinition array_table = ⊤

  new_fits : (what : Definition) → FitsDefinition what → FitsNode (new_node what)
  new_fits (key_value datum) h = h
  new_fits std_table h = tt
  new_fits array_table h = (tt, tt)

  redefined : (what : Definition) (x : Node) → FitsNode x → Holds FitsNode (redefine what x)
  redefined (key_value datum) x h = tt
  redefined std_table (value datum) h = tt
  redefined std_table (open_table implicit inner) h = h
  redefined std_table (open_table dotted inner) h = tt
  redefined std_table (open_table header inner) h = tt
  redefined std_table (open_array done last) h = tt
  redefined array_table (value datum) h = tt
  redefined array_table (open_table origin inner) h = tt
  redefined array_table (open_array done last) h = (pushed done (table (close last)) h.0 (closed last h.1), tt)

  found_keeps : (k : List ℕ) (what : Definition) (ns : Nodes) (o : Option Node) → FitsDefinition what → FitsNodes ns → Holds FitsNode o → Holds FitsNodes (at_found k what ns o)
  found_keeps k what ns None d h f = inserted k (new_node what) ns (new_fits what d) h
  found_keeps k what ns (Some x) d h f = mapped FitsNode FitsNodes (λ y. replace k y ns) (redefine what x) (redefined what x f) (λ y g. replaced k y ns g h)

  pub at_key_keeps : (k : List ℕ) (what : Definition) → FitsDefinition what → Keeps (at_key k what)
  unfolding at_key
  at_key_keeps k what d ns h = found_keeps k what ns (get_node k ns) d h (got k ns h)

  pub put_keeps : (k : Key) (datum : Data) → FitsData datum → Keeps (put k datum)
  put_keeps k datum d = dots_keep k.0 (at_key k.1 (key_value datum)) (at_key_keeps k.1 (key_value datum) d)

  pub member_got : (k : List ℕ) (ms : Members) → FitsMembers ms → Holds FitsData (get_member k ms)
  member_got k no_members h = tt
  member_got k (member l datum ms) h = ordered (Holds FitsData) (slice_cmp nat_cmp k l) (get_member k ms) (Some datum) (get_member k ms) (member_got k ms h.1) h.0 (member_got k ms h.1)
