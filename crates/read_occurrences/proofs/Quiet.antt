-- Readings that declare no member: each name that they read is one of their tree's.
use Rattle.std.proofs.Common.{◌≡◌, ℕ, ◌+◌, ◌≤◌, Bool, true, false, List, [], ◌∷◌, ◌++◌, length, inl, inr, refl, sym, ap, subst, append_assoc, append-nil, arith}
use Rattle.std.specs.Prelude.{◌⊎◌, Option, Some, None, if◌then◌else◌}
use Rattle.std.specs.List.{AllByRecursion}
use Rattle.std.proofs.lemmas.List.{length-append}
use Rattle.c_text.specs.Token.{PlainToken}
use Rattle.c_tree.specs.declared.kinds.Kind.TheVariants as k
use Rattle.c_tree.specs.declared.terminals.Terminal.TheVariants as t
use Rattle.c_tree.specs.Terminals.{terminal, same}
use Rattle.c_tree.specs.Trees.{PlainTree, PlainTrees, leaf, node, none, more}
use Rattle.bindings.specs.Visible.{tags as tag_space, members_of, Entry, look_up, Binding, bound_to, undeclared, member_use, Occurrence, Reading, passed, occurs, occurs_as, leave, binding_found, visible_name, is_of_file, used, member_used, tag_found, tag_named}
use Rattle.bindings.specs.Bindings.{is_name, Where, at_file, in_block, among_members, may_declare_tags, declaring, declared, read_expression, read_expressions, read_words, read_declarator, read_declared, read_declarators, read_parameter, read_parameters, read_suffix, read_closed_suffix, read_declaration, read_statement, read_statements}
use Rattle.name_spaces.proofs.Formed.{IsFormed, AreFormed}
use Rattle.name_spaces.proofs.Uses.{names, all_names}

-- ---- marks: whether an identifier that was found declares a member

abbrev pub Marked : List Occurrence → List Bool → ℕ → Type 0
Marked [] ms d = ⊥
Marked (o ∷ os) [] d = ⊥
Marked (o ∷ os) (m ∷ ms) d = ((o.number ≡ d) × (m ≡ true)) ⊎ Marked os ms d

-- a member that is used is declared by one that is marked
abbrev pub IsOfMarked : List Occurrence → List Bool → Binding → Type 0
IsOfMarked found ms (member_use which) = (tag : List ℕ) (d : ℕ) → which tag ≡ Some d → Marked found ms d
IsOfMarked found ms other = Unit {0}

pub record Holds (found : List Occurrence) (file : List Entry) (ms : List Bool) : Type 0 where
  pub entries : (tag name : List ℕ) (d : ℕ) → look_up (members_of tag) name file ≡ Some d → Marked found ms d
  pub uses : AllByRecursion (λ o. IsOfMarked found ms o.binding) found
  pub as_many : length found ≡ length ms

marked_on : (os ps : List Occurrence) (ms ns : List Bool) (d : ℕ) → Marked os ms d → Marked (os ++ ps) (ms ++ ns) d
marked_on [] ps ms ns d h = absurd h
marked_on (o ∷ os) ps [] ns d h = absurd h
marked_on (o ∷ os) ps (m ∷ ms) ns d (inl h) = inl h
marked_on (o ∷ os) ps (m ∷ ms) ns d (inr h) = inr (marked_on os ps ms ns d h)

pub last_marked : (os : List Occurrence) (ms : List Bool) (o : Occurrence) → length os ≡ length ms → Marked (os ++ o ∷ []) (ms ++ true ∷ []) o.number
last_marked [] [] o e = inl (refl, refl)
last_marked [] (m ∷ ms) o e = absurd (omega (arith, e))
last_marked (p ∷ os) [] o e = absurd (omega (arith, e))
last_marked (p ∷ os) (m ∷ ms) o e = inr (last_marked os ms o (omega (arith, e)))

of_marked_on : (os ps : List Occurrence) (ms ns : List Bool) (b : Binding) → IsOfMarked os ms b → IsOfMarked (os ++ ps) (ms ++ ns) b
of_marked_on os ps ms ns (member_use which) h = λ tag d e. marked_on os ps ms ns d (h tag d e)
of_marked_on os ps ms ns (bound_to by) h = tt
of_marked_on os ps ms ns undeclared h = tt

all_of_marked_on :
    (os ps : List Occurrence) (ms ns : List Bool) (xs : List Occurrence) → AllByRecursion (λ o. IsOfMarked os ms o.binding) xs → AllByRecursion (λ o. IsOfMarked (os ++ ps) (ms ++ ns) o.binding) xs
all_of_marked_on os ps ms ns [] h = tt
all_of_marked_on os ps ms ns (x ∷ xs) h = (of_marked_on os ps ms ns x.binding h.0, all_of_marked_on os ps ms ns xs h.1)

with_last : (P : Occurrence → Type 0) (xs : List Occurrence) (o : Occurrence) → AllByRecursion P xs → P o → AllByRecursion P (xs ++ o ∷ [])
with_last P [] o h p = (p, tt)
with_last P (x ∷ xs) o h p = (h.0, with_last P xs o h.1 p)

pub one_more :
    (found : List Occurrence) (file : List Entry) (ms : List Bool) (o : Occurrence) (m : Bool) → Holds found file ms → IsOfMarked found ms o.binding → Holds (found ++ o ∷ []) file (ms ++ m ∷ [])
one_more found file ms o m h p = record {
  entries = λ tag name d e. marked_on found (o ∷ []) ms (m ∷ []) d (h.entries tag name d e);
  uses = with_last (λ x. IsOfMarked (found ++ o ∷ []) (ms ++ m ∷ []) x.binding) found o (all_of_marked_on found (o ∷ []) ms (m ∷ []) found h.uses) (of_marked_on found (o ∷ []) ms (m ∷ []) o.binding p);
  as_many =
      let e : length found ≡ length ms = h.as_many in
      let l : length (found ++ o ∷ []) ≡ length found + 1 = length-append found (o ∷ []) in
      let n : length (ms ++ m ∷ []) ≡ length ms + 1 = length-append ms (m ∷ []) in
      omega (arith, e, l, n);
}

-- ---- readings that mark nothing, of at most so many names

abbrev pub Unmarked : List Bool → Type 0
Unmarked ms = AllByRecursion (λ (m : Bool). m ≡ false) ms

both_unmarked : (ms ns : List Bool) → Unmarked ms → Unmarked ns → Unmarked (ms ++ ns)
both_unmarked [] ns f g = g
both_unmarked (m ∷ ms) ns f g = (f.0, both_unmarked ms ns f.1 g)

pub record Step (n : ℕ) (ms : List Bool) (r s : Reading) : Type 0 where
  pub others : List Bool
  pub unmarked : Unmarked others
  pub few : length others ≤ n
  pub kept : Holds s.found s.file (ms ++ others)
  pub marked : (d : ℕ) → Marked r.found ms d → Marked s.found (ms ++ others) d

pub record Quiet (n : ℕ) (r s : Reading) : Type 0 where
  pub goes : (ms : List Bool) → Holds r.found r.file ms → Step n ms r s

pub quiet_then : (m n l : ℕ) (r s u : Reading) → m + n ≤ l → Quiet m r s → Quiet n s u → Quiet l r u
quiet_then m n l r s u less f g = record {
  goes = λ ms h.
      let a = f.goes ms h in
      let b = g.goes (ms ++ a.others) a.kept in
      let few_ : length a.others ≤ m = a.few in
      let fewer_ : length b.others ≤ n = b.few in
      let both : length (a.others ++ b.others) ≡ length a.others + length b.others = length-append a.others b.others in
      record {
        others = a.others ++ b.others;
        unmarked = both_unmarked a.others b.others a.unmarked b.unmarked;
        few = omega (arith, less, few_, fewer_, both);
        kept = subst (Holds u.found u.file) (append_assoc ms a.others b.others) b.kept;
        marked = λ d x. subst (λ l. Marked u.found l d) (append_assoc ms a.others b.others) (b.marked d (a.marked d x));
      };
}

pub nothing : (n : ℕ) (ms : List Bool) (r s : Reading) → Holds s.found s.file ms → ((d : ℕ) → Marked r.found ms d → Marked s.found ms d) → Step n ms r s
nothing n ms r s h f = record {
  others = [];
  unmarked = tt;
  few = omega arith;
  kept = subst (Holds s.found s.file) (sym (append-nil ms)) h;
  marked = λ d x. subst (λ l. Marked s.found l d) (sym (append-nil ms)) (f d x);
}

pub stays : (n : ℕ) (r : Reading) → Quiet n r r
stays n r = record { goes = λ ms h. nothing n ms r r h (λ d x. x) }

pub passes : (n : ℕ) (r : Reading) → Quiet n r (passed r)
passes n r = record { goes = λ ms h. nothing n ms r (passed r) h (λ d x. x) }

occurs_quiet : (uses : Bool) (token : PlainToken) (binding : Binding) (r : Reading) → ((ms : List Bool) → Holds r.found r.file ms → IsOfMarked r.found ms binding) → Quiet 1 r (occurs_as uses token binding r)
occurs_quiet uses token binding r p =
    let o : Occurrence = record { number = r.next; token = token; binding = binding; uses_file_name = uses } in
    record {
      goes = λ ms h. record {
        others = false ∷ [];
        unmarked = (refl, tt);
        few = omega arith;
        kept = one_more r.found r.file ms o false h (p ms h);
        marked = λ d x. marked_on r.found (o ∷ []) ms (false ∷ []) d x;
      };
    }

used_quiet : (token : PlainToken) (r : Reading) → Quiet 1 r (used token r)
used_quiet token r = by (visible_name token.text r)
  where
    by : (o : Option ℕ) → Quiet 1 r (occurs_as (is_of_file token.text r) token (binding_found o) r)
    by (Some n) = occurs_quiet (is_of_file token.text r) token (bound_to n) r (λ ms h. tt)
    by None = occurs_quiet (is_of_file token.text r) token undeclared r (λ ms h. tt)

member_quiet : (token : PlainToken) (r : Reading) → Quiet 1 r (member_used token r)
member_quiet token r = occurs_quiet false token (member_use (λ tag. look_up (members_of tag) token.text r.file)) r (λ ms h tag d e. h.entries tag token.text d e)

tag_quiet : (may : Bool) (token : PlainToken) (r : Reading) → Quiet 1 r (tag_named may token r)
tag_quiet may token r = by may (look_up tag_space token.text r.file)
  where
    by : (m : Bool) (x : Option ℕ) → Quiet 1 r (tag_found m token x r)
    by m (Some n) = occurs_quiet false token (bound_to n) r (λ ms h. tt)
    by true None =
        let o : Occurrence = record { number = r.next; token = token; binding = bound_to r.next; uses_file_name = false } in
        record {
          goes = λ ms h.
              let g = one_more r.found r.file ms o false h tt in
              record {
                others = false ∷ [];
                unmarked = (refl, tt);
                few = omega arith;
                kept = record { entries = g.entries; uses = g.uses; as_many = g.as_many };
                marked = λ d x. marked_on r.found (o ∷ []) ms (false ∷ []) d x;
              };
        }
    by false None = occurs_quiet false token undeclared r (λ ms h. tt)

-- ---- names that are declared, but for members

abbrev pub IsOutside : Where → Type 0
IsOutside (among_members tag) = ⊥
IsOutside other = Unit {0}

shown_quiet : (place : Where) → IsOutside place → (token : PlainToken) (by : ℕ) (r : Reading) → Quiet 0 r (declared place token by r)
shown_quiet at_file outside token by r = record { goes = λ ms h. nothing 0 ms r (declared at_file token by r) (record { entries = h.entries; uses = h.uses; as_many = h.as_many }) (λ d x. x) }
shown_quiet in_block outside token by r = record { goes = λ ms h. nothing 0 ms r (declared in_block token by r) h (λ d x. x) }
shown_quiet (among_members tag) outside token by r = absurd outside

pub leaves : (n : ℕ) (r s : Reading) → Quiet n r s → Quiet n r (leave r s)
leaves n r s q = record {
  goes = λ ms h. let a = q.goes ms h in record { others = a.others; unmarked = a.unmarked; few = a.few; kept = a.kept; marked = a.marked };
}

-- ---- expressions

used_or_passed : (b : Bool) (token : PlainToken) (r : Reading) → Quiet (if b then 1 else 0) r (if b then used token r else passed r)
used_or_passed true token r = used_quiet token r
used_or_passed false token r = passes 0 r

mutual
  pub expression_quiet : (tree : PlainTree) → IsFormed tree → (r : Reading) → Quiet (names tree) r (read_expression tree r)
  expression_quiet (leaf token) h r = used_or_passed (is_name token) token r
  expression_quiet (node k.Selection (more structure (more (leaf sign) (more (leaf name) none)))) h r =
      let inner : Reading = read_expression structure r in
      let one : names (leaf name) ≡ 1 = ap (λ (b : Bool). if b then 1 else 0) h.0 in
      quiet_then (names structure) 1 _ r inner _ (omega (arith, one)) (expression_quiet structure h.1.0 r)
      (quiet_then 0 1 1 inner (passed inner) (member_used name (passed inner)) (omega arith) (passes 0 inner) (member_quiet name (passed inner)))
  expression_quiet (node kind parts) h r = expressions_quiet parts h.1 r

  pub expressions_quiet : (parts : PlainTrees) → AreFormed parts → (r : Reading) → Quiet (all_names parts) r (read_expressions parts r)
  expressions_quiet none h r = stays 0 r
  expressions_quiet (more tree rest) h r =
      quiet_then (names tree) (all_names rest) _ r (read_expression tree r) _ (omega arith) (expression_quiet tree h.0 r) (expressions_quiet rest h.1 (read_expression tree r))

-- ---- the words of a type

tag_or_passed : (b may : Bool) (token : PlainToken) (r : Reading) → Quiet (if b then 1 else 0) r (if b then tag_named may token r else passed r)
tag_or_passed true may token r = tag_quiet may token r
tag_or_passed false may token r = passes 0 r

pub words_quiet : (may : Bool) (words : PlainTrees) → AreFormed words → (r : Reading) → Quiet (all_names words) r (read_words may words r)
words_quiet may none h r = stays 0 r
words_quiet may (more (leaf token) rest) h r =
    let s : Reading = if is_name token then tag_named may token r else passed r in
    quiet_then (names (leaf token)) (all_names rest) _ r s _ (omega arith) (tag_or_passed (is_name token) may token r) (words_quiet may rest h.1 s)
words_quiet may (more (node kind parts) rest) h r =
    quiet_then (all_names parts) (all_names rest) _ r (read_expressions parts r) _ (omega arith) (expressions_quiet parts h.0.1 r) (words_quiet may rest h.1 (read_expressions parts r))

-- ---- declarators

abbrev pub Suffixes : (PlainTrees → Reading → Reading) → Type 0
Suffixes behind = (parts : PlainTrees) → AreFormed parts → (r : Reading) → Quiet (all_names parts) r (behind parts r)

module _ (behind : PlainTrees → Reading → Reading) (place : Where) (outside : IsOutside place) (suffixes : Suffixes behind) where
  declarator_quiet : (parts : PlainTrees) → AreFormed parts → (r : Reading) → Quiet (all_names parts) r (read_declarator behind place parts r)
  declarator_quiet none h r = stays 0 r
  declarator_quiet (more (leaf token) rest) h r = by (is_name token) (same t.OpenBracket (terminal token)) (declarator_quiet rest h.1 (passed r))
    where
      by :
          (b c : Bool) → Quiet (all_names rest) (passed r) (read_declarator behind place rest (passed r))
          → Quiet ((if b then 1 else 0) + all_names rest) r
          (if b then declared place token (declaring place token r) (behind rest (occurs token (bound_to (declaring place token r)) r))
          else if c then read_expressions rest (passed r) else read_declarator behind place rest (passed r))
      by true c further =
          let s : Reading = occurs token (bound_to (declaring place token r)) r in
          quiet_then 1 (all_names rest) _ r s _ (omega arith) (occurs_quiet false token (bound_to (declaring place token r)) r (λ ms g. tt))
          (quiet_then (all_names rest) 0 _ s (behind rest s) _ (omega arith) (suffixes rest h.1 s) (shown_quiet place outside token (declaring place token r) (behind rest s)))
      by false true further = quiet_then 0 (all_names rest) _ r (passed r) _ (omega arith) (passes 0 r) (expressions_quiet rest h.1 (passed r))
      by false false further = quiet_then 0 (all_names rest) _ r (passed r) _ (omega arith) (passes 0 r) further
  declarator_quiet (more (node kind parts) rest) h r =
      quiet_then (all_names parts) (all_names rest) _ r (read_expressions parts r) _ (omega arith) (expressions_quiet parts h.0.1 r) (expressions_quiet rest h.1 (read_expressions parts r))

  pub declared_quiet : (tree : PlainTree) → IsFormed tree → (r : Reading) → Quiet (names tree) r (read_declared behind place tree r)
  declared_quiet (node k.Declarator parts) h r = declarator_quiet parts h.1 r
  declared_quiet (node k.ArrayDeclarator parts) h r = declarator_quiet parts h.1 r
  declared_quiet (node k.FunctionDeclarator parts) h r = declarator_quiet parts h.1 r
  declared_quiet other h r = expression_quiet other h r

  pub declarators_quiet : (parts : PlainTrees) → AreFormed parts → (r : Reading) → Quiet (all_names parts) r (read_declarators behind place parts r)
  declarators_quiet none h r = stays 0 r
  declarators_quiet (more tree rest) h r =
      quiet_then (names tree) (all_names rest) _ r (read_declared behind place tree r) _ (omega arith) (declared_quiet tree h.0 r) (declarators_quiet rest h.1 (read_declared behind place tree r))

-- ---- parameters

parameter_quiet : (tree : PlainTree) → IsFormed tree → (r : Reading) → Quiet (names tree) r (read_parameter tree r)
parameter_quiet (node k.Parameter (more (node kind words) (more declarator none))) h r =
    let named : Reading = read_words false words r in
    quiet_then (all_names words) (names declarator) _ r named _ (omega arith) (words_quiet false words h.1.0.1 r)
    (declared_quiet read_expressions in_block tt expressions_quiet declarator h.1.1.0 named)
parameter_quiet other h r = expression_quiet other h r

parameters_quiet : (parts : PlainTrees) → AreFormed parts → (r : Reading) → Quiet (all_names parts) r (read_parameters parts r)
parameters_quiet none h r = stays 0 r
parameters_quiet (more tree rest) h r =
    quiet_then (names tree) (all_names rest) _ r (read_parameter tree r) _ (omega arith) (parameter_quiet tree h.0 r) (parameters_quiet rest h.1 (read_parameter tree r))

pub suffix_quiet : Suffixes read_suffix
suffix_quiet none h r = stays 0 r
suffix_quiet (more (node k.Parameters parts) rest) h r =
    quiet_then (all_names parts) (all_names rest) _ r (read_parameters parts r) _ (omega arith) (parameters_quiet parts h.0.1 r) (suffix_quiet rest h.1 (read_parameters parts r))
suffix_quiet (more tree rest) h r =
    quiet_then (names tree) (all_names rest) _ r (read_expression tree r) _ (omega arith) (expression_quiet tree h.0 r) (suffix_quiet rest h.1 (read_expression tree r))

pub closed_suffix_quiet : Suffixes read_closed_suffix
closed_suffix_quiet parts h r = leaves (all_names parts) r (read_suffix parts r) (suffix_quiet parts h r)

-- ---- declarations

pub declaration_quiet : (place : Where) → IsOutside place → (parts : PlainTrees) → AreFormed parts → (r : Reading) → Quiet (all_names parts) r (read_declaration place parts r)
declaration_quiet place outside (more (node kind words) (more (node list declarators) (more (leaf semicolon) none))) h r =
    let named : Reading = read_words (may_declare_tags place) words r in
    let last : Reading = read_declarators read_closed_suffix place declarators named in
    quiet_then (all_names words) (all_names declarators) _ r named _ (omega arith) (words_quiet (may_declare_tags place) words h.0.1 r)
    (quiet_then (all_names declarators) 0 _ named last _ (omega arith) (declarators_quiet read_closed_suffix place outside closed_suffix_quiet declarators h.1.0.1 named) (passes 0 last))
declaration_quiet place outside parts h r = expressions_quiet parts h r

-- ---- statements

mutual
  pub statement_quiet : (tree : PlainTree) → IsFormed tree → (r : Reading) → Quiet (names tree) r (read_statement tree r)
  statement_quiet (node k.Block parts) h r = leaves (all_names parts) r (read_statements parts r) (statements_quiet parts h.1 r)
  statement_quiet (node k.For parts) h r = leaves (all_names parts) r (read_statements parts r) (statements_quiet parts h.1 r)
  statement_quiet (node k.Items parts) h r = statements_quiet parts h.1 r
  statement_quiet (node k.If parts) h r = statements_quiet parts h.1 r
  statement_quiet (node k.Else parts) h r = statements_quiet parts h.1 r
  statement_quiet (node k.While parts) h r = statements_quiet parts h.1 r
  statement_quiet (node k.Do parts) h r = statements_quiet parts h.1 r
  statement_quiet (node k.LocalDeclaration parts) h r = declaration_quiet in_block tt parts h.1 r
  statement_quiet other h r = expression_quiet other h r

  pub statements_quiet : (parts : PlainTrees) → AreFormed parts → (r : Reading) → Quiet (all_names parts) r (read_statements parts r)
  statements_quiet none h r = stays 0 r
  statements_quiet (more tree rest) h r =
      quiet_then (names tree) (all_names rest) _ r (read_statement tree r) _ (omega arith) (statement_quiet tree h.0 r) (statements_quiet rest h.1 (read_statement tree r))
