-- How many items the arrays in a table have, as keys and headers define more: a header in double brackets adds one, and all else adds none.
use Rattle.std.proofs.Common.{◌≡◌, ℕ, suc, ◌≤◌, List, [], ◌∷◌, ◌++◌, Option, Some, None, nat_cmp, refl, ap, arith}
use Rattle.std.specs.Prelude.{⊤}
use Rattle.std.specs.Cmp.Lexicographic.{slice_cmp}
use Rattle.toml_parser.specs.Strings.{Key}
use Rattle.toml.specs.Data.{Data, string, integer, float, boolean, datetime, array, table, Items, no_items, item, get_member, same_key, push_item}
use Rattle.toml.specs.Tables.{implicit, dotted, header, Node, value, open_table, open_array, Nodes, no_nodes, node, get_node, insert, replace, close_node, close, Edit, header_node, dot_node, by_header, by_dot, along_header, along_dots, Definition, key_value, std_table, array_table, new_node, redefine, at_found, at_key, put, Expression, Document, define_as, define}
use Rattle.file_outcomes.proofs.TomlStrings.{chosen, Holds, mapped}
use Rattle.file_outcomes.proofs.TomlTables.{ordered}

abbrev pub number_of : Items → ℕ
number_of no_items = 0
number_of (item datum rest) = suc (number_of rest)

-- the items of an array; what is none has no items
abbrev pub size : Data → ℕ
size (array items) = number_of items
size (string bytes) = 0
size (integer z) = 0
size (float x) = 0
size (boolean b) = 0
size (datetime d) = 0
size (table inner) = 0

abbrev size_of_node : Node → ℕ
size_of_node (value datum) = size datum
size_of_node (open_table origin inner) = 0
size_of_node (open_array done last) = suc (number_of done)

pub number-push : (items : Items) (datum : Data) → number_of (push_item items datum) ≡ suc (number_of items)
number-push no_items datum = refl
number-push (item first rest) datum = ap suc (number-push rest datum)

size-close : (x : Node) → size (close_node x) ≡ size_of_node x
size-close (value datum) = refl
size-close (open_table origin inner) = refl
size-close (open_array done last) = number-push done (table (close last))

-- nothing is said of what is there
pub anything : {X : Type 0} (o : Option X) → Holds (λ (x : X). ⊤) o
anything None = tt
anything (Some x) = tt

module _ (most : ℕ) where
  abbrev pub IsSmall : Data → Type 0
  IsSmall datum = size datum ≤ most

  abbrev SmallNode : Node → Type 0
  SmallNode x = size_of_node x ≤ most

  -- the arrays at the keys themselves; what stands deeper isn't asked
  abbrev pub SmallNodes : Nodes → Type 0
  SmallNodes no_nodes = ⊤
  SmallNodes (node key x rest) = SmallNode x × SmallNodes rest

  got : (k : List ℕ) (ns : Nodes) → SmallNodes ns → Holds SmallNode (get_node k ns)
  got k no_nodes h = tt
  got k (node l x ns) h = chosen (Holds SmallNode) (same_key k l) (Some x) (get_node k ns) h.0 (got k ns h.1)

  inserted : (k : List ℕ) (x : Node) (ns : Nodes) → SmallNode x → SmallNodes ns → SmallNodes (insert k x ns)
  inserted k x no_nodes f h = (f, tt)
  inserted k x (node l y ns) f h =
      ordered most SmallNodes (slice_cmp nat_cmp k l) (node k x (node l y ns)) (node l x ns) (node l y (insert k x ns)) (f, h) (f, h.1) (h.0, inserted k x ns f h.1)

  replaced : (k : List ℕ) (x : Node) (ns : Nodes) → SmallNode x → SmallNodes ns → SmallNodes (replace k x ns)
  replaced k x no_nodes f h = tt
  replaced k x (node l y ns) f h = chosen SmallNodes (same_key k l) (node l x ns) (node l y (replace k x ns)) (f, h.1) (h.0, replaced k x ns f h.1)

  pub closed_get : (k : List ℕ) (ns : Nodes) → SmallNodes ns → Holds IsSmall (get_member k (close ns))
  closed_get k no_nodes h = tt
  closed_get k (node l x ns) h =
      ordered most (Holds IsSmall) (slice_cmp nat_cmp k l) (get_member k (close ns)) (Some (close_node x)) (get_member k (close ns)) (closed_get k ns h.1)
      (let same = size-close x in let small = h.0 in omega (arith, same, small)) (closed_get k ns h.1)

  -- a header or a dotted key that leads deeper leaves the arrays as they are
  under_header : (k : List ℕ) (edit : Edit) (ns : Nodes) (o : Option Node) → SmallNodes ns → Holds SmallNode o → Holds SmallNodes (by_header k edit ns o)
  under_header k edit ns None h f = mapped (λ (n : Nodes). ⊤) SmallNodes (λ new. insert k (open_table implicit new) ns) (edit no_nodes) (anything (edit no_nodes)) (λ new g. inserted k (open_table implicit new) ns (omega arith) h)
  under_header k edit ns (Some x) h f = mapped SmallNode SmallNodes (λ new. replace k new ns) (header_node edit x) (inner x f) (λ new g. replaced k new ns g h)
    where
      inner : (x : Node) → SmallNode x → Holds SmallNode (header_node edit x)
      inner (value datum) f = tt
      inner (open_table origin ns) f = mapped (λ (n : Nodes). ⊤) SmallNode (open_table origin) (edit ns) (anything (edit ns)) (λ new g. omega arith)
      inner (open_array done last) f = mapped (λ (n : Nodes). ⊤) SmallNode (open_array done) (edit last) (anything (edit last)) (λ new g. f)

  under_dot : (k : List ℕ) (edit : Edit) (ns : Nodes) (o : Option Node) → SmallNodes ns → Holds SmallNode o → Holds SmallNodes (by_dot k edit ns o)
  under_dot k edit ns None h f = mapped (λ (n : Nodes). ⊤) SmallNodes (λ new. insert k (open_table dotted new) ns) (edit no_nodes) (anything (edit no_nodes)) (λ new g. inserted k (open_table dotted new) ns (omega arith) h)
  under_dot k edit ns (Some x) h f = mapped SmallNode SmallNodes (λ new. replace k new ns) (dot_node edit x) (inner x f) (λ new g. replaced k new ns g h)
    where
      inner : (x : Node) → SmallNode x → Holds SmallNode (dot_node edit x)
      inner (value datum) f = tt
      inner (open_table header ns) f = tt
      inner (open_table implicit ns) f = mapped (λ (n : Nodes). ⊤) SmallNode (open_table dotted) (edit ns) (anything (edit ns)) (λ new g. omega arith)
      inner (open_table dotted ns) f = mapped (λ (n : Nodes). ⊤) SmallNode (open_table dotted) (edit ns) (anything (edit ns)) (λ new g. omega arith)
      inner (open_array done last) f = tt

pub larger : (less most : ℕ) (ns : Nodes) → less ≤ most → SmallNodes less ns → SmallNodes most ns
larger less most no_nodes e h = tt
larger less most (node k x ns) e h = (let small = h.0 in omega (arith, e, small), larger less most ns e h.1)

module _ (less most : ℕ) (e : less ≤ most) where
  -- an edit of arrays of so many items at most, after which they have no more than `most`
  abbrev Grows : Edit → Type 0
  Grows edit = (ns : Nodes) → SmallNodes less ns → Holds (SmallNodes most) (edit ns)

  header_grows : (path : List (List ℕ)) (edit : Edit) → Grows edit → Grows (along_header path edit)
  unfolding along_header
  header_grows [] edit g ns h = g ns h
  header_grows (k ∷ path) edit g ns h =
      let all = larger less most ns e h in under_header most k (along_header path edit) ns (get_node k ns) all (got most k ns all)

  dots_grow : (path : List (List ℕ)) (edit : Edit) → Grows edit → Grows (along_dots path edit)
  unfolding along_dots
  dots_grow [] edit g ns h = g ns h
  dots_grow (k ∷ path) edit g ns h =
      let all = larger less most ns e h in under_dot most k (along_dots path edit) ns (get_node k ns) all (got most k ns all)

abbrev pub SmallDefinition : ℕ → Definition → Type 0
SmallDefinition most (key_value datum) = IsSmall most datum
SmallDefinition most std_table = ⊤
SmallDefinition most array_table = ⊤

module _ (most : ℕ) where
  new_small : (what : Definition) → SmallDefinition most what → SmallNode (suc most) (new_node what)
  new_small (key_value datum) h = omega (arith, h)
  new_small std_table h = omega arith
  new_small array_table h = omega arith

  redefined : (what : Definition) (x : Node) → SmallNode most x → Holds (SmallNode (suc most)) (redefine what x)
  redefined (key_value datum) x h = tt
  redefined std_table (value datum) h = tt
  redefined std_table (open_table implicit inner) h = omega arith
  redefined std_table (open_table dotted inner) h = tt
  redefined std_table (open_table header inner) h = tt
  redefined std_table (open_array done last) h = tt
  redefined array_table (value datum) h = tt
  redefined array_table (open_table origin inner) h = tt
  redefined array_table (open_array done last) h = let one = number-push done (table (close last)) in omega (arith, h, one)

  found_grows : (k : List ℕ) (what : Definition) (ns : Nodes) (o : Option Node) → SmallDefinition most what → SmallNodes (suc most) ns → Holds (SmallNode most) o → Holds (SmallNodes (suc most)) (at_found k what ns o)
  found_grows k what ns None d h f = inserted (suc most) k (new_node what) ns (new_small what d) h
  found_grows k what ns (Some x) d h f =
      mapped (SmallNode (suc most)) (SmallNodes (suc most)) (λ y. replace k y ns) (redefine what x) (redefined what x f) (λ y g. replaced (suc most) k y ns g h)

  more : most ≤ suc most
  more = omega arith

  at_key_grows : (k : List ℕ) (what : Definition) → SmallDefinition most what → Grows most (suc most) more (at_key k what)
  unfolding at_key
  at_key_grows k what d ns h = found_grows k what ns (get_node k ns) d (larger most (suc most) ns more h) (got most k ns h)

  put_grows : (k : Key) (datum : Data) → IsSmall most datum → Grows most (suc most) more (put k datum)
  put_grows k datum d = dots_grow most (suc most) more k.0 (at_key k.1 (key_value datum)) (at_key_grows k.1 (key_value datum) d)

  abbrev SmallDocument : Document → Type 0
  SmallDocument doc = SmallNodes (suc most) doc.0

  pub defined : (doc : Document) (x : Expression) → SmallNodes most doc.0 → SmallDefinition most x.1 → Holds (λ (next : Document). SmallNodes (suc most) next.0) (define doc x)
  unfolding define
  defined doc x h d = by x.0 x.1 d
    where
      by : (k : Key) (what : Definition) → SmallDefinition most what → Holds (λ (next : Document). SmallNodes (suc most) next.0) (define_as doc k what)
      by k (key_value datum) d = mapped (SmallNodes (suc most)) SmallDocument (λ root. (root, doc.1)) (along_header doc.1 (put k datum) doc.0) (header_grows most (suc most) more doc.1 (put k datum) (put_grows k datum d) doc.0 h) (λ root g. g)
      by k std_table d = mapped (SmallNodes (suc most)) SmallDocument (λ root. (root, k.0 ++ k.1 ∷ [])) (along_header k.0 (at_key k.1 std_table) doc.0) (header_grows most (suc most) more k.0 (at_key k.1 std_table) (at_key_grows k.1 std_table tt) doc.0 h) (λ root g. g)
      by k array_table d = mapped (SmallNodes (suc most)) SmallDocument (λ root. (root, k.0 ++ k.1 ∷ [])) (along_header k.0 (at_key k.1 array_table) doc.0) (header_grows most (suc most) more k.0 (at_key k.1 array_table) (at_key_grows k.1 array_table tt) doc.0 h) (λ root g. g)
