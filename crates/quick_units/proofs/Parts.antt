-- Parts whose reading gives the symbols that are present.
use Rattle.std.proofs.Common.{◌≡◌, ℕ, drop, Bool, true, false, cond, ◌||◌, List, [], ◌∷◌, ◌++◌, map, refl, sym, ap, ◌∙◌, codes, Option, Some, None, is_some, inr}
use Rattle.std.specs.List.{flat_map}
use Rattle.std.proofs.lemmas.List.{append_assoc, map-append, append-nil}
use Rattle.std.proofs.lemmas.List.Elements.{All-nil, All-cons}
use Rattle.c_text.specs.declared.token.TokenKind.{TokenKind}
use Rattle.c_text.specs.declared.token.TokenKind.TheVariants as kind
use Rattle.c_text.specs.Token.{PlainToken}
use Rattle.c_text.specs.Lines.{PlainLine}
use Rattle.c_text.specs.Trees.{Part, finish, breaks, text_lines, directive_line, group, broken_group, no_branch, branch, lines_in, begins, begins_last, closes, role_of, HasRole, IsText, BeginsNoText, IsFormed}
use Rattle.c_text.specs.Preprocessing.{Refusal, refused_token, refused_ignored, Reading, Flow, on, then_read, unless, or_else, tokens_of_lines, read_run, unless_fails, condition_at, Setting, by_condition, read_part, feature_token}
use Rattle.c_text.specs.Macros.{feature}
use Rattle.quick_form.specs.Symbols.{Symbol, Ifdef, Else, Endif}
use Rattle.quick_lines.specs.Spellings.{Spelling, spelling, spelling_of, spellings_of, spelled_symbol, hash, is_directive}
use Rattle.quick_lines.specs.SpelledLines.{AreOfLine, SpellsLine}
use Rattle.quick_units.specs.Units.{is_on, replaced_spelling}
use Rattle.quick_units.proofs.Runs.{table, reading, replacing, run-read, replacing-append, replacing-spelled, on-injective, refused-on, unless-on, then-on, none-right}

-- ---- tokens by their spellings

abbrev token : TokenKind → List ℕ → PlainToken → PlainToken
token kind text t = record t { kind = kind; text = text }

pub record One (tokens : List PlainToken) (a : Spelling) (others : List Spelling) : Type 0 where
  pub first : PlainToken
  pub rest : List PlainToken
  pub are : tokens ≡ token a.kind a.text first ∷ rest
  pub spelled : spellings_of rest ≡ others

first-spelled : (t : PlainToken) (a : Spelling) → spelling_of t ≡ a → t ≡ token a.kind a.text t
first-spelled t a e = ap (λ s. token s.kind s.text t) e

one : (tokens : List PlainToken) (a : Spelling) (others : List Spelling) → spellings_of tokens ≡ a ∷ others → One tokens a others
one [] a others e = cc
one (t ∷ rest) a others e =
    let same : spelling_of t ≡ a = cc in
    record { first = t; rest = rest; are = ap (λ x. x ∷ rest) (first-spelled t a same); spelled = cc }

no-tokens : (tokens : List PlainToken) → spellings_of tokens ≡ [] → tokens ≡ []
no-tokens [] e = refl
no-tokens (t ∷ tokens) e = cc

-- `#` and a name alone
pub record Named (tokens : List PlainToken) (of : TokenKind) (name : List ℕ) : Type 0 where
  pub sharp : PlainToken
  pub word : PlainToken
  pub are : tokens ≡ token kind.Punctuator (codes "#") sharp ∷ token of name word ∷ []

named : (tokens : List PlainToken) (of : TokenKind) (name : List ℕ) → spellings_of tokens ≡ hash ∷ spelling of name ∷ [] → Named tokens of name
named tokens of name e =
    let first = one tokens hash (spelling of name ∷ []) e in
    let second = one first.rest (spelling of name) [] first.spelled in
    let all = first.are ∙ ap (λ x. token kind.Punctuator (codes "#") first.first ∷ x) (second.are ∙ ap (λ x. token of name second.first ∷ x) (no-tokens second.rest second.spelled)) in
    record { sharp = first.first; word = second.first; are = all }

-- `#ifdef` and a name
pub record Tested (tokens : List PlainToken) (name : List ℕ) : Type 0 where
  pub sharp : PlainToken
  pub word : PlainToken
  pub tested : PlainToken
  pub are : tokens ≡ token kind.Punctuator (codes "#") sharp ∷ token kind.Name (codes "ifdef") word ∷ token kind.Name name tested ∷ []

tested : (tokens : List PlainToken) (name : List ℕ) → spellings_of tokens ≡ hash ∷ spelling kind.Name (codes "ifdef") ∷ spelling kind.Name name ∷ [] → Tested tokens name
tested tokens name e =
    let first = one tokens hash (spelling kind.Name (codes "ifdef") ∷ spelling kind.Name name ∷ []) e in
    let second = one first.rest (spelling kind.Name (codes "ifdef")) (spelling kind.Name name ∷ []) first.spelled in
    let third = one second.rest (spelling kind.Name name) [] second.spelled in
    let end = third.are ∙ ap (λ x. token kind.Name name third.first ∷ x) (no-tokens third.rest third.spelled) in
    let behind = second.are ∙ ap (λ x. token kind.Name (codes "ifdef") second.first ∷ x) end in
    record { sharp = first.first; word = second.first; tested = third.first; are = first.are ∙ ap (λ x. token kind.Punctuator (codes "#") first.first ∷ x) behind }

-- ---- lines of directives

directive-by : (b : Bool) (k : Symbol) → is_directive k ≡ true → AreOfLine b (k ∷ []) → b ≡ true
directive-by true k e h = refl
directive-by false k e h = absurd (clash (is_directive k) e h)
  where
    clash : (b : Bool) → b ≡ true → (b || false) ≡ false → ⊥
    clash true e h = cc
    clash false e h = cc

directive-line : (line : PlainLine) (k : Symbol) → is_directive k ≡ true → SpellsLine line (k ∷ []) → line.directive ≡ true
directive-line line k e h = directive-by line.directive k e h.form

tested-line : (line : PlainLine) (n : List ℕ) → SpellsLine line (Ifdef n ∷ []) → Tested line.tokens n
tested-line line n h = tested line.tokens n h.tokens

else-line : (line : PlainLine) → SpellsLine line (Else ∷ []) → Named line.tokens kind.Keyword (codes "else")
else-line line h = named line.tokens kind.Keyword (codes "else") h.tokens

endif-line : (line : PlainLine) → SpellsLine line (Endif ∷ []) → Named line.tokens kind.Name (codes "endif")
endif-line line h = named line.tokens kind.Name (codes "endif") h.tokens

begins-role : (line : PlainLine) (n : List ℕ) → SpellsLine line (Ifdef n ∷ []) → HasRole begins line
begins-role line n h = (directive-line line (Ifdef n) refl h, ap role_of (tested-line line n h).are)

else-role : (line : PlainLine) → SpellsLine line (Else ∷ []) → HasRole begins_last line
else-role line h = (directive-line line Else refl h, ap role_of (else-line line h).are)

closes-role : (line : PlainLine) → SpellsLine line (Endif ∷ []) → HasRole closes line
closes-role line h = (directive-line line Endif refl h, ap role_of (endif-line line h).are)

condition-on : (s : Setting) (found : Option Refusal) (b : Bool) (taken passed : Flow) (r : Reading) → by_condition s (unless_fails found b) taken passed ≡ on r → cond b taken passed ≡ on r
condition-on s None true taken passed r e = e
condition-on s None false taken passed r e = e
condition-on s (Some why) b taken passed r e = absurd (refused-on why r e)

is-some-if : (b : Bool) → is_some (cond b (Some (feature feature_token)) None) ≡ b
is-some-if true = refl
is-some-if false = refl

-- ---- what readings give

pub flat-append : (a b : List Symbol) → flat_map spelled_symbol (a ++ b) ≡ flat_map spelled_symbol a ++ flat_map spelled_symbol b
flat-append [] b = refl
flat-append (k ∷ a) b =
    ap (λ l. spelled_symbol k ++ l) (flat-append a b) ∙ sym (append_assoc (spelled_symbol k) (flat_map spelled_symbol a) (flat_map spelled_symbol b))

module _ (names : List (List ℕ)) where
  -- what symbols spell where these features are on
  abbrev pub given : List Symbol → List Spelling
  given ks = map (replaced_spelling names) (flat_map spelled_symbol ks)

  given-append : (a b : List Symbol) → given (a ++ b) ≡ given a ++ given b
  given-append a b =
      ap (map (replaced_spelling names)) (flat-append a b) ∙ map-append (replaced_spelling names) (flat_map spelled_symbol a) (flat_map spelled_symbol b)

  -- a reading has come from these tokens to what symbols spell behind them
  pub record Ends (before : List PlainToken) (out : List Symbol) (r : Reading) : Type 0 where
    pub new : List PlainToken
    pub is : r ≡ reading names (before ++ new)
    pub spelled : spellings_of new ≡ given out

  ends-here : (before : List PlainToken) (r : Reading) → Flow.on (reading names before) ≡ on r → Ends before [] r
  ends-here before r e = record {
    new = [];
    is = sym (on-injective (reading names before) r e) ∙ ap (reading names) (sym (append-nil before));
    spelled = refl;
  }

  ends-behind : (before new : List PlainToken) (own out : List Symbol) (r : Reading) → spellings_of new ≡ given own → Ends (before ++ new) out r → Ends before (own ++ out) r
  ends-behind before new own out r e h = record {
    new = new ++ h.new;
    is = h.is ∙ ap (reading names) (append_assoc before new h.new);
    spelled =
        map-append spelling_of new h.new ∙ ap (λ l. l ++ spellings_of h.new) e ∙ ap (λ l. given own ++ l) h.spelled
        ∙ sym (given-append own out);
  }

  -- wherever the reading of the part goes on, it has given what the symbols spell
  abbrev pub Reads : Part → List Symbol → Type 0
  Reads part out =
      (s : Setting) (before : List PlainToken) (r : Reading) → read_part s (reading names before) part ≡ on r → Ends before out r

  -- lines form a part whose reading gives what the symbols spell
  pub record Gives (lines : List PlainLine) (out : List Symbol) : Type 0 where
    pub part : Part
    pub formed : IsFormed true part
    pub same : lines_in part ≡ lines
    pub reads : Reads part out

  pub gives-none : Gives [] []
  gives-none = record { part = finish; formed = refl; same = refl; reads = λ s before r e. ends-here before r e }

  -- ---- a line of text before a part

  pub record Ran (before tokens : List PlainToken) (next : Reading → Flow) (r : Reading) : Type 0 where
    pub none : refused_token tokens ≡ None
    pub goes : next (reading names (before ++ replacing names tokens)) ≡ on r

  ran : (before tokens : List PlainToken) (next : Reading → Flow) (r : Reading) → then_read (read_run (reading names before) tokens) next ≡ on r → Ran before tokens next r
  ran before tokens next r e =
      let t = then-on (read_run (reading names before) tokens) next r e in
      let u = unless-on (refused_token tokens) (on (reading names (before ++ replacing names tokens))) t.between (sym (run-read names before tokens) ∙ t.first) in
      record { none = u.none; goes = ap next (on-injective (reading names (before ++ replacing names tokens)) t.between u.goes) ∙ t.second }

  run-on : (before tokens : List PlainToken) → refused_token tokens ≡ None → read_run (reading names before) tokens ≡ on (reading names (before ++ replacing names tokens))
  run-on before tokens e =
      run-read names before tokens ∙ ap (λ x. unless x (on (reading names (before ++ replacing names tokens)))) e

  abbrev with_text : PlainLine → Part → Part
  with_text line (text_lines lines rest) = text_lines (line ∷ lines) rest
  with_text line part = text_lines (line ∷ []) part

  lone-text : (line : PlainLine) (part : Part) → line.directive ≡ false → BeginsNoText part → IsFormed true part → IsFormed true (text_lines (line ∷ []) part)
  lone-text line part e begin f = ((λ h. cc), All-cons IsText line [] e (All-nil IsText), begin, f)

  text-formed : (line : PlainLine) (part : Part) → line.directive ≡ false → IsFormed true part → IsFormed true (with_text line part)
  text-formed line (text_lines lines rest) e f = ((λ h. cc), All-cons IsText line lines e f.1, f.2, f.3)
  text-formed line finish e f = lone-text line finish e tt f
  text-formed line breaks e f = lone-text line breaks e tt f
  text-formed line (directive_line first rest) e f = lone-text line (directive_line first rest) e tt f
  text-formed line (group first body others last rest) e f = lone-text line (group first body others last rest) e tt f
  text-formed line (broken_group first body others) e f = lone-text line (broken_group first body others) e tt f

  text-same : (line : PlainLine) (part : Part) → lines_in (with_text line part) ≡ line ∷ lines_in part
  text-same line (text_lines lines rest) = refl
  text-same line finish = refl
  text-same line breaks = refl
  text-same line (directive_line first rest) = refl
  text-same line (group first body others last rest) = refl
  text-same line (broken_group first body others) = refl

  module _ (line : PlainLine) (own : List Symbol) (spelled : spellings_of line.tokens ≡ flat_map spelled_symbol own) where
    own-spelled : spellings_of (replacing names line.tokens) ≡ given own
    own-spelled = replacing-spelled names line.tokens ∙ ap (map (replaced_spelling names)) spelled

    lone-reads : (part : Part) (out : List Symbol) → Reads part out → Reads (text_lines (line ∷ []) part) (own ++ out)
    lone-reads part out h s before r e =
        let a = ran before (line.tokens ++ []) (λ after. read_part s after part) r e in
        let same = ap (λ l. read_part s (reading names (before ++ replacing names l)) part) (append-nil line.tokens) in
        let end = h s (before ++ replacing names line.tokens) r (sym same ∙ a.goes) in
        ends-behind before (replacing names line.tokens) own out r own-spelled end

    more-reads : (lines : List PlainLine) (rest : Part) (out : List Symbol) → Reads (text_lines lines rest) out → Reads (text_lines (line ∷ lines) rest) (own ++ out)
    more-reads lines rest out h s before r e =
        let behind = tokens_of_lines lines in
        let a = ran before (line.tokens ++ behind) (λ after. read_part s after rest) r e in
        let middle = before ++ replacing names line.tokens in
        let run = run-on middle behind (none-right line.tokens behind a.none) in
        let places : before ++ replacing names (line.tokens ++ behind) ≡ middle ++ replacing names behind =
        ap (λ l. before ++ l) (replacing-append names line.tokens behind) ∙ sym (append_assoc before (replacing names line.tokens) (replacing names behind)) in
        let goes = ap (λ f. then_read f (λ after. read_part s after rest)) run ∙ ap (λ l. read_part s (reading names l) rest) (sym places) ∙ a.goes in
        ends-behind before (replacing names line.tokens) own out r own-spelled (h s middle r goes)

    text-reads : (part : Part) (out : List Symbol) → Reads part out → Reads (with_text line part) (own ++ out)
    text-reads (text_lines lines rest) out h = more-reads lines rest out h
    text-reads finish out h = lone-reads finish out h
    text-reads breaks out h = lone-reads breaks out h
    text-reads (directive_line first rest) out h = lone-reads (directive_line first rest) out h
    text-reads (group first body others last rest) out h = lone-reads (group first body others last rest) out h
    text-reads (broken_group first body others) out h = lone-reads (broken_group first body others) out h

    pub gives-text : (lines : List PlainLine) (out : List Symbol) → line.directive ≡ false → Gives lines out → Gives (line ∷ lines) (own ++ out)
    gives-text lines out e g = record {
      part = with_text line g.part;
      formed = text-formed line g.part e g.formed;
      same = text-same line g.part ∙ ap (λ l. line ∷ l) g.same;
      reads = text-reads g.part out g.reads;
    }

  -- ---- groups

  -- a branch, behind which nothing counts
  taken : (part : Part) (out : List Symbol) → Reads part out → (s : Setting) (before : List PlainToken) (r : Reading) → then_read (read_part s (reading names before) part) (λ after. on after) ≡ on r → Ends before out r
  taken part out h s before r e =
      let t = then-on (read_part s (reading names before) part) (λ after. on after) r e in
      h s before r (t.first ∙ t.second)

  chosen : (b : Bool) (x y : Flow) (before : List PlainToken) (a c : List Symbol) (r : Reading) → (x ≡ on r → Ends before a r) → (y ≡ on r → Ends before c r) → cond b x y ≡ on r → Ends before (cond b a c) r
  chosen true x y before a c r p q e = p e
  chosen false x y before a c r p q e = q e

  module _ (s : Setting) (n : List ℕ) (first last : PlainLine) (f : SpellsLine first (Ifdef n ∷ [])) (l : SpellsLine last (Endif ∷ [])) (rest : Part) (o : List Symbol) (h : Reads rest o) (before : List PlainToken) (r : Reading) where
    -- what is read behind the first line, and behind the last
    abbrev whole : Flow → Flow → List PlainToken → List PlainToken → Flow
    whole x y firsts lasts =
        then_read (by_condition s (condition_at s.value_of (table names) firsts) x y)
        (λ after. unless (refused_ignored (drop 2 lasts)) (read_part s after rest))

    group-ends : (x y : Flow) (a c : List Symbol) → ((m : Reading) → x ≡ on m → Ends before a m) → ((m : Reading) → y ≡ on m → Ends before c m) → whole x y first.tokens last.tokens ≡ on r → Ends before (cond (is_on names n) a c ++ o) r
    group-ends x y a c p q e =
        let firsts = tested-line first n f in
        let lasts = endif-line last l in
        let known = ap (λ k. whole x y k last.tokens) (sym firsts.are) ∙ e in
        let word = token kind.Name n firsts.tested in
        let found = or_else (refused_token (word ∷ [])) None in
        let t = then-on (by_condition s (unless_fails found (is_some (table names n))) x y) (λ after. unless (refused_ignored (drop 2 last.tokens)) (read_part s after rest)) r known in
        let branch = condition-on s found (is_some (table names n)) x y t.between t.first in
        let by_name = ap (λ b. cond b x y) (sym (is-some-if (is_on names n))) ∙ branch in
        let end = chosen (is_on names n) x y before a c t.between (p t.between) (q t.between) by_name in
        let goes = ap (λ k. unless (refused_ignored (drop 2 k)) (read_part s t.between rest)) (sym lasts.are) ∙ t.second in
        let after = h s (before ++ end.new) r (ap (λ m. read_part s m rest) (sym end.is) ∙ goes) in
        ends-behind before end.new (cond (is_on names n) a c) o r end.spelled after

  choice-lines : (first middle last : PlainLine) (a c o : List PlainLine) → first ∷ a ++ (middle ∷ c ++ []) ++ (last ∷ o) ≡ first ∷ a ++ (middle ∷ c ++ (last ∷ o))
  choice-lines first middle last a c o =
      ap (λ x. first ∷ a ++ (middle ∷ x) ++ (last ∷ o)) (append-nil c) ∙ ap (λ x. first ∷ x) (append_assoc a (middle ∷ c) (last ∷ o))

  -- `#ifdef`, lines, `#endif` and what follows
  pub gives-group : (n : List ℕ) (first last : PlainLine) (body rest : List PlainLine) (a o : List Symbol) → SpellsLine first (Ifdef n ∷ []) → SpellsLine last (Endif ∷ []) → Gives body a → Gives rest o → Gives (first ∷ body ++ (last ∷ rest)) (cond (is_on names n) a [] ++ o)
  gives-group n first last body rest a o f l g h = record {
    part = group first g.part no_branch last h.part;
    formed = (begins-role first n f, g.formed, tt, closes-role last l, h.formed);
    same = ap (λ x. first ∷ (x ++ (last ∷ lines_in h.part))) (append-nil (lines_in g.part)) ∙ ap (λ x. first ∷ (x ++ (last ∷ lines_in h.part))) g.same ∙ ap (λ x. first ∷ (body ++ (last ∷ x))) h.same;
    reads = λ s before r e.
        let x = then_read (read_part s (reading names before) g.part) (λ after. on after) in
        group-ends s n first last f l h.part o h.reads before r x (on (reading names before)) a []
        (λ m. taken g.part a g.reads s before m) (λ m. ends-here before m) e;
  }

  -- the same with lines behind an `#else`
  pub gives-choice : (n : List ℕ) (first middle last : PlainLine) (body other rest : List PlainLine) (a c o : List Symbol) → SpellsLine first (Ifdef n ∷ []) → SpellsLine middle (Else ∷ []) → SpellsLine last (Endif ∷ []) → Gives body a → Gives other c → Gives rest o → Gives (first ∷ body ++ (middle ∷ other ++ (last ∷ rest))) (cond (is_on names n) a c ++ o)
  gives-choice n first middle last body other rest a c o f m l g k h = record {
    part = group first g.part (branch middle k.part no_branch) last h.part;
    formed = (begins-role first n f, g.formed, (inr (else-role middle m), k.formed), closes-role last l, h.formed);
    same =
        choice-lines first middle last (lines_in g.part) (lines_in k.part) (lines_in h.part)
        ∙ ap (λ x. first ∷ (x ++ (middle ∷ lines_in k.part ++ (last ∷ lines_in h.part)))) g.same
        ∙ ap (λ x. first ∷ (body ++ (middle ∷ x ++ (last ∷ lines_in h.part)))) k.same
        ∙ ap (λ x. first ∷ (body ++ (middle ∷ other ++ (last ∷ x)))) h.same;
    reads = λ s before r e.
        let word = else-line middle m in
        let whole_text = λ (tokens : List PlainToken).
        then_read
        (by_condition s (condition_at s.value_of (table names) first.tokens)
        (then_read (read_part s (reading names before) g.part) (λ after. unless (refused_ignored (drop 2 tokens)) (on after)))
        (by_condition s (condition_at s.value_of (table names) tokens) (then_read (read_part s (reading names before) k.part) (λ after. on after)) (on (reading names before))))
        (λ after. unless (refused_ignored (drop 2 last.tokens)) (read_part s after h.part)) in
        let x = then_read (read_part s (reading names before) g.part) (λ after. on after) in
        let y = then_read (read_part s (reading names before) k.part) (λ after. on after) in
        group-ends s n first last f l h.part o h.reads before r x y a c
        (λ m. taken g.part a g.reads s before m) (λ m. taken k.part c k.reads s before m) (ap whole_text (sym word.are) ∙ e);
  }
