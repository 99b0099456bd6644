-- Parts that are read one after the other.
use Rattle.std.proofs.Common.{◌≡◌, ℕ, Bool, true, false, ◌||◌, List, refl, sym, ap, subst, ◌∙◌}
use Rattle.std.specs.Prelude.{if◌then◌else◌}
use Rattle.std.proofs.lemmas.Bool.{false≢true}
use Rattle.c_types.specs.Types.{PlainType}
use Rattle.c_tree.specs.declared.kinds.Kind.{Kind}
use Rattle.c_tree.specs.Trees.{PlainTrees, leaf, node, none, more}
use Rattle.conditional.specs.Entries.{Entry}
use Rattle.choice_trees.proofs.Parts.{also}
use Rattle.expression_types.specs.Reading.{is_operand}
use Rattle.statement_readings.specs.Walks.{State, turns, is_loop, expression_read, node_read, walk_parts}
use Rattle.statement_readings.proofs.Parts.{parts_stay}
use Rattle.type_tables.specs.Tables.{Tables}
use Rattle.cond_statements.specs.Ready.{Ready}
use Rattle.cond_statements.specs.Readings.{first_behind, turned_behind, Arrives, Reads, Walks}

pub also_also : (a b c : PlainTrees) → also (also a b) c ≡ also a (also b c)
also_also none b c = refl
also_also (more tree rest) b c = ap (more tree) (also_also rest b c)

pub first_also : (first : Bool) (a b : PlainTrees) → first_behind first (also a b) ≡ first_behind (first_behind first a) b
first_also first none b = refl
first_also first (more (leaf token) rest) b = first_also first rest b
first_also first (more (node kind parts) rest) b = first_also false rest b

turned_also : (kind : Kind) (turned : Bool) (a b : PlainTrees) → turned_behind kind turned (also a b) ≡ turned_behind kind (turned_behind kind turned a) b
turned_also kind turned none b = refl
turned_also kind turned (more (leaf token) rest) b = by (is_operand token) (turned_also kind turned rest b) (turned_also kind (turned || turns kind token) rest b)
  where
    by : (o : Bool) → turned_behind kind turned (also rest b) ≡ turned_behind kind (turned_behind kind turned rest) b
        → turned_behind kind (turned || turns kind token) (also rest b) ≡ turned_behind kind (turned_behind kind (turned || turns kind token) rest) b
        → (if o then turned_behind kind turned (also rest b) else turned_behind kind (turned || turns kind token) (also rest b))
        ≡ turned_behind kind (if o then turned_behind kind turned rest else turned_behind kind (turned || turns kind token) rest) b
    by true one other = one
    by false one other = other
turned_also kind turned (more (node inner parts) rest) b = turned_also kind turned rest b

ready_also : (kind : Kind) (first : Bool) (a b : PlainTrees) → Ready kind first (also a b) → Ready kind first a × Ready kind (first_behind first a) b
ready_also kind first none b ready = (tt, ready)
ready_also kind first (more (leaf token) rest) b ready = ready_also kind first rest b ready
ready_also kind first (more (node inner parts) rest) b ready = let others = ready_also kind false rest b ready.1 in ((ready.0, others.0), others.1)

walk_also : (result : PlainType) (in_loop : Bool) (kind : Kind) (turned : Bool) (a b : PlainTrees) (s : State)
    → walk_parts result in_loop kind turned (also a b) s ≡ walk_parts result in_loop kind (turned_behind kind turned a) b (walk_parts result in_loop kind turned a s)
walk_also result in_loop kind turned none b s = refl
walk_also result in_loop kind turned (more (leaf token) rest) b s =
    by (is_operand token) (walk_also result in_loop kind turned rest b (expression_read result kind turned (leaf token) s)) (walk_also result in_loop kind (turned || turns kind token) rest b s)
  where
    by : (o : Bool) → walk_parts result in_loop kind turned (also rest b) (expression_read result kind turned (leaf token) s) ≡ walk_parts result in_loop kind (turned_behind kind turned rest) b (walk_parts result in_loop kind turned rest (expression_read result kind turned (leaf token) s))
        → walk_parts result in_loop kind (turned || turns kind token) (also rest b) s ≡ walk_parts result in_loop kind (turned_behind kind (turned || turns kind token) rest) b (walk_parts result in_loop kind (turned || turns kind token) rest s)
        → (if o then walk_parts result in_loop kind turned (also rest b) (expression_read result kind turned (leaf token) s) else walk_parts result in_loop kind (turned || turns kind token) (also rest b) s)
        ≡ walk_parts result in_loop kind (if o then turned_behind kind turned rest else turned_behind kind (turned || turns kind token) rest) b (if o then walk_parts result in_loop kind turned rest (expression_read result kind turned (leaf token) s) else walk_parts result in_loop kind (turned || turns kind token) rest s)
    by true one other = one
    by false one other = other
walk_also result in_loop kind turned (more (node inner parts) rest) b s =
    walk_also result in_loop kind turned rest b (node_read result in_loop kind turned inner parts (walk_parts result (is_loop inner || in_loop) inner false parts) s)

-- ---- parts behind parts

arrives_then :
    (kind : Kind) (first behind : Bool) (by : ℕ → ℕ) (old mid new : Tables) (f g : Bool) (s t : State) → Arrives kind first by old mid f s
    → (s.refused ≡ false → Arrives kind behind by mid new g t) → (s.refused ≡ true → t.refused ≡ true) → Arrives kind behind by old new (f || g) t
arrives_then kind first behind by old mid new true g s t x later stays =
    let refused : t.refused ≡ true = stays (sym x.refused_is) in
    record {
      refused_is = sym refused;
      stands = λ e. absurd (false≢true (sym e ∙ refused));
      same = λ q e. absurd (false≢true (sym e ∙ refused));
    }
arrives_then kind first behind by old mid new false g s t x later stays =
    let y = later (sym x.refused_is) in
    record { refused_is = y.refused_is; stands = y.stands; same = λ q e. y.same q e ∙ x.same q (sym x.refused_is) }

or_or : (a f g : Bool) → ((a || f) || g) ≡ (a || (f || g))
or_or true f g = refl
or_or false f g = refl

turned_twice : (kind : Kind) (when : Bool) (a b : PlainTrees) (turned : Bool)
    → (if when then turned_behind kind (if when then turned_behind kind turned a else turned) b else (if when then turned_behind kind turned a else turned)) ≡ (if when then turned_behind kind turned (also a b) else turned)
turned_twice kind true a b turned = sym (turned_also kind turned a b)
turned_twice kind false a b turned = refl

if_true : (when turned : Bool) (x : Bool) → when ≡ true → (if when then x else turned) ≡ x
if_true when turned x h = ap (λ b. if b then x else turned) h

pub or_false : (b : Bool) → b ≡ (b || false)
or_false true = refl
or_false false = refl

pub if_same : (when turned : Bool) → turned ≡ (if when then turned else turned)
if_same true turned = refl
if_same false turned = refl

module _ (on : ℕ → Bool) (result : PlainType) (results : List (Entry PlainType)) (in_loop : Bool) (kind : Kind) where
  reads_then :
      (turned turned_now : Bool) (a b : PlainTrees) (when : Bool) (old mid new : Tables) (f g : Bool) → turned_now ≡ (if when then turned_behind kind turned a else turned)
      → Reads on result results in_loop kind turned a when old mid f → Reads on result results in_loop kind turned_now b when mid new g → Reads on result results in_loop kind turned (also a b) when old new (f || g)
  reads_then turned turned_now a b when old mid new f g is x y = record {
    same = λ h. y.same h ∙ x.same h;
    accepted = λ h. ap (λ c. c || g) (x.accepted h) ∙ y.accepted h;
    arrives = λ h by s first fine stands ready stand.
        let parts = ready_also kind first a b ready in
        let now : turned_now ≡ turned_behind kind turned a = is ∙ if_true when turned (turned_behind kind turned a) h in
        let behind = walk_parts result in_loop kind turned a s in
        let one = x.arrives h by s first fine stands parts.0 stand in
        subst (Arrives kind (first_behind first (also a b)) by old new (f || g)) (sym (walk_also result in_loop kind turned a b s))
        (subst (λ (c : Bool). Arrives kind c by old new (f || g) (walk_parts result in_loop kind (turned_behind kind turned a) b behind)) (sym (first_also first a b))
        (arrives_then kind (first_behind first a) (first_behind (first_behind first a) b) by old mid new f g behind (walk_parts result in_loop kind (turned_behind kind turned a) b behind) one
        (λ e. subst (λ (c : Bool). Arrives kind (first_behind (first_behind first a) b) by mid new g (walk_parts result in_loop kind c b behind)) now
        (y.arrives h by behind (first_behind first a) e stands parts.1 (one.stands e)))
        (parts_stay result in_loop kind (turned_behind kind turned a) b behind)));
  }

  pub walks_then :
      (a b : PlainTrees) (when : Bool) (old mid new : Tables) (refused refused_mid refused_now turned turned_mid turned_now : Bool)
      → Walks on result results in_loop kind a when old mid refused refused_mid turned turned_mid → Walks on result results in_loop kind b when mid new refused_mid refused_now turned_mid turned_now
      → Walks on result results in_loop kind (also a b) when old new refused refused_now turned turned_now
  walks_then a b when old mid new refused refused_mid refused_now turned turned_mid turned_now x y = record {
    found = x.found || y.found;
    refused_is = y.refused_is ∙ ap (λ c. c || y.found) x.refused_is ∙ or_or refused x.found y.found;
    turned_is = y.turned_is ∙ ap (λ (c : Bool). if when then turned_behind kind c b else c) x.turned_is ∙ turned_twice kind when a b turned;
    reads = reads_then turned turned_mid a b when old mid new x.found y.found x.turned_is x.reads y.reads;
  }

  pub walks_nothing : (when : Bool) (t : Tables) (refused turned : Bool) → Walks on result results in_loop kind none when t t refused refused turned turned
  walks_nothing when t refused turned = record {
    found = false;
    refused_is = or_false refused;
    turned_is = if_same when turned;
    reads = record {
      same = λ h. refl;
      accepted = λ h. refl;
      arrives = λ h by s first fine stands ready stand. record { refused_is = sym fine; stands = λ e. stand; same = λ q e. refl };
    };
  }

  -- what is read where its condition is false
  pub walks_nowhere : (parts : PlainTrees) (when : Bool) (t : Tables) (refused turned : Bool) → when ≡ false → Walks on result results in_loop kind parts when t t refused refused turned turned
  walks_nowhere parts when t refused turned h = record {
    found = false;
    refused_is = or_false refused;
    turned_is = sym (ap (λ b. if b then turned_behind kind turned parts else turned) h);
    reads = record {
      same = λ h. refl;
      accepted = λ h. refl;
      arrives = λ i by s first fine stands ready stand. absurd (false≢true (sym h ∙ i));
    };
  }

  -- where the condition is false, all stays as it was
  pub record Unchanged (old new : Tables) (refused refused_now turned turned_now : Bool) : Type 0 where
    pub tables : new ≡ old
    pub refused_is : refused_now ≡ refused
    pub turned_is : turned_now ≡ turned

  pub unchanged : (parts : PlainTrees) (when : Bool) (old new : Tables) (refused refused_now turned turned_now : Bool) → when ≡ false
      → Walks on result results in_loop kind parts when old new refused refused_now turned turned_now → Unchanged old new refused refused_now turned turned_now
  unchanged parts when old new refused refused_now turned turned_now h x = record {
    tables = x.reads.same h;
    refused_is = x.refused_is ∙ ap (λ b. refused || b) (x.reads.accepted h) ∙ sym (or_false refused);
    turned_is = x.turned_is ∙ ap (λ b. if b then turned_behind kind turned parts else turned) h;
  }

  pub then_unchanged : (parts : PlainTrees) (when : Bool) (old mid new : Tables) (refused refused_mid refused_now turned turned_mid turned_now : Bool) → Unchanged mid new refused_mid refused_now turned_mid turned_now
      → Walks on result results in_loop kind parts when old mid refused refused_mid turned turned_mid → Walks on result results in_loop kind parts when old new refused refused_now turned turned_now
  then_unchanged parts when old mid new refused refused_mid refused_now turned turned_mid turned_now u x = record {
    found = x.found;
    refused_is = u.refused_is ∙ x.refused_is;
    turned_is = u.turned_is ∙ x.turned_is;
    reads = subst (λ t. Reads on result results in_loop kind turned parts when old t x.found) (sym u.tables) x.reads;
  }
