-- The quick form as writing: items, statements and conditional groups, and the symbols that they write.
use Rattle.std.specs.Prelude.{◌≡◌, ℕ, ◌+◌, ◌≤◌, max, Bool, List, [], ◌∷◌, ◌++◌, length, if◌then◌else◌}
use Rattle.c_names.specs.Bytes.{close_brace, close_parenthesis, equals_sign, minus_sign, open_brace, open_parenthesis, plus_sign, semicolon}
use Rattle.quick_form.specs.Symbols.{Symbol, Int, Void, While, Return, Putchar, Main, Name, Number, Mark, Ifdef, Else, Endif, symbols_of, tested_names}

-- an operand of a sum: a name, or a number by its digits
pub data Operand : Type 0 where
  Named : List ℕ → Operand
  Literal : List ℕ → Operand

-- an operand that `+` or `-` joins to what stands before it
pub record Term : Type 0 where
  pub subtracted : Bool
  pub operand : Operand

pub record Sum : Type 0 where
  pub first : Operand
  pub more : List Term

-- a list of statements, each with what follows it in its list; a group holds whole statements of one list
pub data Statements : Type 0 where
  no_more : Statements
  assignment : List ℕ → Sum → Statements → Statements
  output : Sum → Statements → Statements
  return_of : Sum → Statements → Statements
  loop : Sum → Statements → Statements → Statements
  -- `#ifdef` name, statements, `#endif`
  group : List ℕ → Statements → Statements → Statements
  -- `#ifdef` name, statements, `#else`, statements, `#endif`
  choice : List ℕ → Statements → Statements → Statements → Statements

-- a list of items, each with what follows it in its list
pub data Items : Type 0 where
  no_item : Items
  variable : List ℕ → Items → Items
  -- a variable with its first value, by its digits
  initialised : List ℕ → List ℕ → Items → Items
  main_with : Statements → Items → Items
  item_group : List ℕ → Items → Items → Items
  item_choice : List ℕ → Items → Items → Items → Items

-- What each writes, followed by the symbols k.
abbrev pub operand_symbol : Operand → Symbol
operand_symbol (Named x) = Name x
operand_symbol (Literal d) = Number d

abbrev pub write_terms : List Term → List Symbol → List Symbol
write_terms [] k = k
write_terms (t ∷ ts) k = Mark (if t.subtracted then minus_sign else plus_sign) ∷ operand_symbol t.operand ∷ write_terms ts k

abbrev pub write_sum : Sum → List Symbol → List Symbol
write_sum s k = operand_symbol s.first ∷ write_terms s.more k

abbrev pub write_statements : Statements → List Symbol → List Symbol
write_statements no_more k = k
write_statements (assignment x s rest) k = Name x ∷ Mark equals_sign ∷ write_sum s (Mark semicolon ∷ write_statements rest k)
write_statements (output s rest) k = Putchar ∷ Mark open_parenthesis ∷ write_sum s (Mark close_parenthesis ∷ Mark semicolon ∷ write_statements rest k)
write_statements (return_of s rest) k = Return ∷ write_sum s (Mark semicolon ∷ write_statements rest k)
write_statements (loop s body rest) k =
    While ∷ Mark open_parenthesis ∷ write_sum s (Mark close_parenthesis ∷ Mark open_brace ∷ write_statements body (Mark close_brace ∷ write_statements rest k))
write_statements (group n body rest) k = Ifdef n ∷ write_statements body (Endif ∷ write_statements rest k)
write_statements (choice n body other rest) k =
    Ifdef n ∷ write_statements body (Else ∷ write_statements other (Endif ∷ write_statements rest k))

abbrev pub write_items : Items → List Symbol → List Symbol
write_items no_item k = k
write_items (variable x rest) k = Int ∷ Name x ∷ Mark semicolon ∷ write_items rest k
write_items (initialised x d rest) k = Int ∷ Name x ∷ Mark equals_sign ∷ Number d ∷ Mark semicolon ∷ write_items rest k
write_items (main_with body rest) k =
    Int ∷ Main ∷ Mark open_parenthesis ∷ Void ∷ Mark close_parenthesis ∷ Mark open_brace ∷ write_statements body (Mark close_brace ∷ write_items rest k)
write_items (item_group n body rest) k = Ifdef n ∷ write_items body (Endif ∷ write_items rest k)
write_items (item_choice n body other rest) k =
    Ifdef n ∷ write_items body (Else ∷ write_items other (Endif ∷ write_items rest k))

-- how many blocks are open at most; groups open none
abbrev pub statement_blocks : Statements → ℕ
statement_blocks no_more = 0
statement_blocks (assignment x s rest) = statement_blocks rest
statement_blocks (output s rest) = statement_blocks rest
statement_blocks (return_of s rest) = statement_blocks rest
statement_blocks (loop s body rest) = max (statement_blocks body + 1) (statement_blocks rest)
statement_blocks (group n body rest) = max (statement_blocks body) (statement_blocks rest)
statement_blocks (choice n body other rest) =
    max (statement_blocks body) (max (statement_blocks other) (statement_blocks rest))

abbrev pub item_blocks : Items → ℕ
item_blocks no_item = 0
item_blocks (variable x rest) = item_blocks rest
item_blocks (initialised x d rest) = item_blocks rest
item_blocks (main_with body rest) = max (statement_blocks body + 1) (item_blocks rest)
item_blocks (item_group n body rest) = max (item_blocks body) (item_blocks rest)
item_blocks (item_choice n body other rest) = max (item_blocks body) (max (item_blocks other) (item_blocks rest))

-- the names that are declared in some branch
abbrev pub declared_names : Items → List (List ℕ)
declared_names no_item = []
declared_names (variable x rest) = x ∷ declared_names rest
declared_names (initialised x d rest) = x ∷ declared_names rest
declared_names (main_with body rest) = declared_names rest
declared_names (item_group n body rest) = declared_names body ++ declared_names rest
declared_names (item_choice n body other rest) = declared_names body ++ (declared_names other ++ declared_names rest)

-- the bytes read as these items, whatever their size
abbrev pub Reads : List ℕ → Items → Type 0
Reads bytes items = symbols_of bytes ≡ write_items items []

-- the symbols are those of items within the limits: 64 blocks open at most, 128 names tested at most
pub record IsWritten (ks : List Symbol) : Type 0 where
  pub items : Items
  pub writes : ks ≡ write_items items []
  pub shallow : item_blocks items ≤ 64
  pub few_tests : length (tested_names ks) ≤ 128

-- with more behind them they are
abbrev pub IsBeginning : List Symbol → Type 0
IsBeginning ks = (rest : List Symbol) × IsWritten (ks ++ rest)

-- the file is of the quick form
pub record IsForm (bytes : List ℕ) : Type 0 where
  pub written : IsWritten (symbols_of bytes)
  pub size : length bytes ≤ 16777216
