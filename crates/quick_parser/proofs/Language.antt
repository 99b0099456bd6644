-- The language of a spot: the symbols that end a file there, and the step backwards over a symbol.
use Rattle.std.proofs.Common.{◌≡◌, ℕ, zero, suc, ◌-◌, ◌≤◌, ◌⊎◌, List, [], ◌∷◌}
use Rattle.quick_form.specs.Symbols.{Symbol, Void, Main, Name, Number, Mark, Else, Endif}
use Rattle.quick_form.specs.Form.{Term, Sum, Statements, Items, write_terms, write_sum, write_statements, write_items, statement_blocks, item_blocks}
use Rattle.quick_parser.specs.declared.spots.SumEnd.{SumEnd}
use Rattle.quick_parser.specs.declared.spots.SumEnd.TheVariants.{Statement, Output, Condition}
use Rattle.quick_parser.specs.declared.spots.Place.{Place}
use Rattle.quick_parser.specs.declared.spots.Place.TheVariants.{Entry, Declarator, Declared, Initializer, Semicolon, MainOpening, MainVoid, MainClosing, Body, Assignment, Opening, Operand, Operator}
use Rattle.quick_parser.specs.declared.spots.Frame.{Frame}
use Rattle.quick_parser.specs.declared.spots.Frame.TheVariants.{Block, Group, Alternative}
use Rattle.quick_parser.specs.Spots.{Spot, block_count}

abbrev pub Language : Type 1
Language = List Symbol → Type 0

-- the symbol k, and then symbols of the language
pub record Follows (k : Symbol) (L : Language) (ks : List Symbol) : Type 0 where
  pub rest : List Symbol
  pub is : ks ≡ k ∷ rest
  pub more : L rest

-- items with few enough blocks, and then symbols of the language
pub record ItemsThen (L : Language) (ks : List Symbol) : Type 0 where
  pub items : Items
  pub rest : List Symbol
  pub is : ks ≡ write_items items rest
  pub fits : item_blocks items ≤ 64
  pub more : L rest

-- likewise statements inside b blocks
pub record StatementsThen (b : ℕ) (L : Language) (ks : List Symbol) : Type 0 where
  pub statements : Statements
  pub rest : List Symbol
  pub is : ks ≡ write_statements statements rest
  pub fits : statement_blocks statements ≤ 64 - b
  pub more : L rest

-- a list inside b blocks
abbrev pub ListThen : ℕ → Language → Language
ListThen zero L = ItemsThen L
ListThen (suc b) L = StatementsThen (suc b) L

-- behind the list of a group's first branch
abbrev pub BranchEnds : ℕ → Language → Language
BranchEnds b L ks = Follows Endif L ks ⊎ Follows Else (ListThen b (Follows Endif L)) ks

-- inside n blocks, where L closes what is open: a block, and then the list that it stands in
abbrev pub BodyThen : ℕ → Language → Language
BodyThen n L = Follows (Mark 123) (ListThen (suc n) (Follows (Mark 125) (ListThen n L)))

-- the parts of `(void)` before it
abbrev pub ClosingThen : ℕ → Language → Language
ClosingThen n L = Follows (Mark 41) (BodyThen n L)

abbrev pub VoidThen : ℕ → Language → Language
VoidThen n L = Follows Void (ClosingThen n L)

abbrev pub MainThen : ℕ → Language → Language
MainThen n L = Follows (Mark 40) (VoidThen n L)

-- a name; a number and `;`
pub record NameThen (L : Language) (ks : List Symbol) : Type 0 where
  pub name : List ℕ
  pub more : Follows (Name name) L ks

pub record ValueThen (L : Language) (ks : List Symbol) : Type 0 where
  pub digits : List ℕ
  pub more : Follows (Number digits) (Follows (Mark 59) L) ks

-- behind a declared name
abbrev pub DeclaredThen : Language → Language
DeclaredThen L ks = Follows (Mark 59) L ks ⊎ Follows (Mark 61) (ValueThen L) ks

pub record TermsThen (L : Language) (ks : List Symbol) : Type 0 where
  pub terms : List Term
  pub rest : List Symbol
  pub is : ks ≡ write_terms terms rest
  pub more : L rest

pub record SumThen (L : Language) (ks : List Symbol) : Type 0 where
  pub sum_read : Sum
  pub rest : List Symbol
  pub is : ks ≡ write_sum sum_read rest
  pub more : L rest

-- behind a sum
abbrev pub SumEnds : SumEnd → ℕ → Language → Language
SumEnds Statement n L = Follows (Mark 59) (ListThen n L)
SumEnds Output n L = Follows (Mark 41) (Follows (Mark 59) (ListThen n L))
SumEnds Condition n L = Follows (Mark 41) (BodyThen n L)

-- the symbols that end a file at a place inside n blocks, where L closes what is open
abbrev pub Ends : Place → ℕ → Language → Language
Ends Entry n L = ListThen n L
Ends Declarator n L = λ ks. NameThen (DeclaredThen (ListThen n L)) ks ⊎ Follows Main (MainThen n L) ks
Ends Declared n L = DeclaredThen (ListThen n L)
Ends Initializer n L = ValueThen (ListThen n L)
Ends Semicolon n L = Follows (Mark 59) (ListThen n L)
Ends MainOpening n L = MainThen n L
Ends MainVoid n L = VoidThen n L
Ends MainClosing n L = ClosingThen n L
Ends Body n L = BodyThen n L
Ends Assignment n L = Follows (Mark 61) (SumThen (SumEnds Statement n L))
Ends (Opening e) n L = Follows (Mark 40) (SumThen (SumEnds e n L))
Ends (Operand e) n L = SumThen (SumEnds e n L)
Ends (Operator e) n L = TermsThen (SumEnds e n L)

-- the symbols that close open frames behind the innermost list
abbrev pub Closes : List Frame → Language
Closes [] = λ ks. ks ≡ []
Closes (Block ∷ fs) = Follows (Mark 125) (ListThen (block_count fs) (Closes fs))
Closes (Group ∷ fs) = BranchEnds (block_count fs) (ListThen (block_count fs) (Closes fs))
Closes (Alternative ∷ fs) = Follows Endif (ListThen (block_count fs) (Closes fs))

-- the symbols that end a file at a spot
abbrev pub EndsAt : Spot → Language
EndsAt p = Ends p.place (block_count p.open_frames) (Closes p.open_frames)
