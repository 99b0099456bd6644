-- What the kind of a node decides.
use Rattle.std.proofs.Common.{◌≡◌, ℕ, Bool, true, false, IsTrue, refl}
use Rattle.c_types.specs.Types.{PlainType}
use Rattle.c_tree.specs.declared.kinds.Kind.{Kind}
use Rattle.c_tree.specs.declared.kinds.Kind.TheVariants as k
use Rattle.c_tree.specs.Trees.{PlainTrees, node}
use Rattle.core_meaning.specs.Entities.{Scope}
use Rattle.core_meaning.specs.Declarations.{with_block}
use Rattle.statement_readings.specs.Walks.{State, leave, expression_read, node_read}
use Rattle.type_tables.specs.Tables.{Tables}
use Rattle.type_tables.specs.Steps.{entered}
use Rattle.type_tables.specs.Numbers.{FollowsBy}
use Rattle.cond_statements.specs.declared.roles.Role.{Role}
use Rattle.cond_statements.specs.declared.roles.Role.TheVariants.{LeftOut, Declaration, Scoped, Parts, Jump, Expression}
use Rattle.cond_statements.specs.Roles.{role_of}
use Rattle.cond_statements.specs.Ready.{may_declare, has_items, IsExpression, NodeReady, Ready}
use Rattle.cond_statements.specs.Readings.{Stand, is_quiet}
use Rattle.cond_statements.proofs.Standing.{entered_followed}

-- where the block of a node begins
abbrev pub opened : Kind → State → State
opened k.Block s = record s { scope = with_block s.scope }
opened kind s = s

pub record Opens (kind : Kind) : Type 0 where
  pub reads : (result : PlainType) (in_loop : Bool) (around : Kind) (turned : Bool) (parts : PlainTrees) (inner : State → State) (s : State) → node_read result in_loop around turned kind parts inner s ≡ leave s (inner (opened kind s))
  pub ready : (around : Kind) (first : Bool) (parts : PlainTrees) → NodeReady around first kind parts (Ready kind true parts) → Ready kind true parts
  pub stands : (by : ℕ → ℕ) (t : Tables) (s : State) → FollowsBy by t s.scope → Stand kind true by (entered t) (opened kind s).scope
  pub refused : (s : State) → (opened kind s).refused ≡ s.refused

-- nothing is declared among the parts of the node
pub record Quiet (kind : Kind) : Type 0 where
  pub reads : (result : PlainType) (in_loop : Bool) (around : Kind) (turned : Bool) (parts : PlainTrees) (inner : State → State) (s : State) → node_read result in_loop around turned kind parts inner s ≡ inner s
  pub ready : (around : Kind) (first : Bool) (parts : PlainTrees) → NodeReady around first kind parts (Ready kind true parts) → Ready kind true parts
  pub stands : (first : Bool) (by : ℕ → ℕ) (t : Tables) (scope : Scope) → FollowsBy by t scope → Stand kind first by t scope
  pub quiet : IsTrue (is_quiet kind)
  pub declares : (first : Bool) → may_declare kind first ≡ false
  pub lists : has_items kind ≡ false

pub data Partwise (kind : Kind) : Type 0 where
  listed : kind ≡ k.Items → Partwise kind
  quietly : Quiet kind → Partwise kind

pub record IsRead (kind : Kind) : Type 0 where
  pub reads : (result : PlainType) (in_loop : Bool) (around : Kind) (turned : Bool) (parts : PlainTrees) (inner : State → State) (s : State)
      → node_read result in_loop around turned kind parts inner s ≡ expression_read result around turned (node kind parts) s
  pub ready : (around : Kind) (first : Bool) (parts : PlainTrees) → NodeReady around first kind parts (Ready kind true parts) → IsExpression (node kind parts)

abbrev pub Plays : Kind → Role → Type 0
Plays kind LeftOut = kind ≡ k.Absent
Plays kind Declaration = kind ≡ k.LocalDeclaration
Plays kind Scoped = Opens kind
Plays kind Parts = Partwise kind
Plays kind Jump = kind ≡ k.Jump
Plays kind Expression = IsRead kind

block_opens : Opens k.Block
block_opens = record {
  reads = λ result in_loop around turned parts inner s. refl;
  ready = λ around first parts ready. ready;
  stands = λ by t s f. entered_followed by t s.scope f;
  refused = λ s. refl;
}

for_opens : Opens k.For
for_opens = record {
  reads = λ result in_loop around turned parts inner s. refl;
  ready = λ around first parts ready. ready;
  stands = λ by t s f. entered_followed by t s.scope f;
  refused = λ s. refl;
}

expression_statement_quiet : Quiet k.ExpressionStatement
expression_statement_quiet = record {
  reads = λ result in_loop around turned parts inner s. refl;
  ready = λ around first parts ready. ready;
  stands = λ first by t scope f. f;
  quiet = refl;
  declares = λ first. refl;
  lists = refl;
}

if_quiet : Quiet k.If
if_quiet = record {
  reads = λ result in_loop around turned parts inner s. refl;
  ready = λ around first parts ready. ready;
  stands = λ first by t scope f. f;
  quiet = refl;
  declares = λ first. refl;
  lists = refl;
}

else_quiet : Quiet k.Else
else_quiet = record {
  reads = λ result in_loop around turned parts inner s. refl;
  ready = λ around first parts ready. ready;
  stands = λ first by t scope f. f;
  quiet = refl;
  declares = λ first. refl;
  lists = refl;
}

while_quiet : Quiet k.While
while_quiet = record {
  reads = λ result in_loop around turned parts inner s. refl;
  ready = λ around first parts ready. ready;
  stands = λ first by t scope f. f;
  quiet = refl;
  declares = λ first. refl;
  lists = refl;
}

do_quiet : Quiet k.Do
do_quiet = record {
  reads = λ result in_loop around turned parts inner s. refl;
  ready = λ around first parts ready. ready;
  stands = λ first by t scope f. f;
  quiet = refl;
  declares = λ first. refl;
  lists = refl;
}

for_start_quiet : Quiet k.ForStart
for_start_quiet = record {
  reads = λ result in_loop around turned parts inner s. refl;
  ready = λ around first parts ready. ready;
  stands = λ first by t scope f. f;
  quiet = refl;
  declares = λ first. refl;
  lists = refl;
}

return_quiet : Quiet k.Return
return_quiet = record {
  reads = λ result in_loop around turned parts inner s. refl;
  ready = λ around first parts ready. ready;
  stands = λ first by t scope f. f;
  quiet = refl;
  declares = λ first. refl;
  lists = refl;
}

pub plays_role : (kind : Kind) → Plays kind (role_of kind)
plays_role k.Absent = refl
plays_role k.LocalDeclaration = refl
plays_role k.Block = block_opens
plays_role k.For = for_opens
plays_role k.Items = listed refl
plays_role k.ExpressionStatement = quietly expression_statement_quiet
plays_role k.If = quietly if_quiet
plays_role k.Else = quietly else_quiet
plays_role k.While = quietly while_quiet
plays_role k.Do = quietly do_quiet
plays_role k.ForStart = quietly for_start_quiet
plays_role k.Return = quietly return_quiet
plays_role k.Jump = refl
plays_role _ = record { reads = λ result in_loop around turned parts inner s. refl; ready = λ around first parts ready. ready }
