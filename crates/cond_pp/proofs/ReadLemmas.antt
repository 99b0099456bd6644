-- What a directive line reads itself, before which no tokens wait, and what it includes.
use Rattle.std.proofs.Common.{◌≡◌, ℕ, Bool, true, false, List, [], ◌∷◌, ◌++◌, map, IsTrue, Option, Some, None, refl, ap, sym, ◌∙◌, append-nil}
use Rattle.std.specs.Prelude.{if◌then◌else◌, drop}
use Rattle.std.proofs.lemmas.Bool.{false≢true}
use Rattle.std.proofs.lemmas.List.Elements.{All-head}
use Rattle.cond_formula.specs.Conditions.{Condition, value}
use Rattle.c_text.specs.Token.{PlainToken}
use Rattle.c_text.specs.Lines.{PlainLine}
use Rattle.c_text.specs.Trees.{Role, begins, begins_branch, begins_last, closes, stands_alone, role_of}
use Rattle.c_text.specs.Preprocessing.{Reading, Refusal, Flow, Setting, on, refused, Condition as Truth, holds, fails, condition_at, refused_ignored, read_directive}
use Rattle.c_text.specs.Directives.{directive_of}
use Rattle.active_tokens.specs.Reads.{Read, read_of, Following, reads_behind, unless_refused, by_truth, reads_of_inclusion}
use Rattle.file_walks.specs.Walk.{Open, are_read}
use Rattle.read_walks.specs.WalkReads.{reads_at_group, reads_at_branch, reads_at_end, reads_at_directive, reads_by_role}
use Rattle.cond_groups.specs.Groups.{PlainGroup, Fits, AllFit, open_at, level_at, read_in, branch_read_in, end_read_in, line_read_in}
use Rattle.cond_pp.specs.Walks.{reads_included, reads_named}
use Rattle.cond_pp.specs.Watches.{read_where}
use Rattle.cond_groups.specs.GroupLaws.{read-is, read-inside}
use Rattle.cond_pp.proofs.WalkLemmas.{emptied}

unless-none : (found : Option Refusal) → unless_refused found [] ≡ []
unless-none None = refl
unless-none (Some why) = refl

pub behind-none : (x : Flow) → reads_behind x (λ a. []) ≡ []
behind-none (on r) = refl
behind-none (refused why) = refl

pub reads-none : (b : Bool) (o : Option Reading) → read_where b (λ r. []) o ≡ []
reads-none b None = refl
reads-none true (Some r) = refl
reads-none false (Some r) = refl

pub reads-same : (b : Bool) (f g : Reading → List Read) (o : Option Reading) → ((r : Reading) → f r ≡ g r) → read_where b f o ≡ read_where b g o
reads-same b f g None h = refl
reads-same true f g (Some r) h = h r
reads-same false f g (Some r) h = refl

module _ (s : Setting) (f : Following) (line : PlainLine) where
  abbrev line_read : Reading → List Read
  line_read r = read_of r line.tokens ∷ []

  truth-none : (c : Truth) → by_truth s f c [] [] ≡ []
  truth-none (holds true) = refl
  truth-none (holds false) = refl
  truth-none (fails why) = refl

  begun-reads : (r : Reading) → (read_of r line.tokens ∷ by_truth s f (condition_at s.value_of r.table line.tokens) [] []) ≡ line_read r
  begun-reads r = ap (λ (l : List Read). read_of r line.tokens ∷ l) (truth-none (condition_at s.value_of r.table line.tokens))

  name-reads : (r : Reading) → (read_of r line.tokens ∷ unless_refused (refused_ignored (drop 2 line.tokens)) []) ≡ line_read r
  name-reads r = ap (λ (l : List Read). read_of r line.tokens ∷ l) (unless-none (refused_ignored (drop 2 line.tokens)))

  -- where lines are read
  group-reads : (e h : Bool) (groups : List Open) (r : Reading) → (IsTrue e → are_read groups ≡ h) → (IsTrue h → IsTrue e) → read_where e (λ a. reads_at_group s f (emptied a groups) line (λ v. [])) (Some r) ≡ read_where h line_read (Some r)
  group-reads true true groups r are inside =
      ap (λ (b : Bool). if b then read_of r line.tokens ∷ by_truth s f (condition_at s.value_of r.table line.tokens) [] [] else []) (are refl) ∙ begun-reads r
  group-reads true false groups r are inside =
      ap (λ (b : Bool). if b then read_of r line.tokens ∷ by_truth s f (condition_at s.value_of r.table line.tokens) [] [] else []) (are refl)
  group-reads false true groups r are inside = absurd (false≢true (inside refl))
  group-reads false false groups r are inside = refl

  alone-reads : (e h : Bool) (groups : List Open) (r : Reading) → (IsTrue e → are_read groups ≡ h) → (IsTrue h → IsTrue e) → read_where e (λ a. reads_at_directive s f (emptied a groups) line (λ v. [])) (Some r) ≡ read_where h line_read (Some r) ++ read_where h (λ a. reads_of_inclusion s f a (directive_of line.tokens)) (Some r)
  alone-reads true true groups r are inside =
      let all : List Read = read_of r line.tokens ∷ reads_of_inclusion s f r (directive_of line.tokens) in
      ap (λ (b : Bool). if b then all ++ reads_behind (read_directive s r line.tokens) (λ a. []) else []) (are refl)
      ∙ ap (λ (l : List Read). all ++ l) (behind-none (read_directive s r line.tokens))
      ∙ append-nil all
  alone-reads true false groups r are inside =
      ap (λ (b : Bool). if b then (read_of r line.tokens ∷ reads_of_inclusion s f r (directive_of line.tokens)) ++ reads_behind (read_directive s r line.tokens) (λ a. []) else []) (are refl)
  alone-reads false true groups r are inside = absurd (false≢true (inside refl))
  alone-reads false false groups r are inside = refl

  -- a further branch
  branch-reads : (e wi rd wt last l : Bool) (outer : List Open) (r : Reading) → (IsTrue wi → IsTrue e) → (IsTrue rd → IsTrue wi) → read_where e (λ a. reads_at_branch s f (emptied a (level_at wi rd wt l ∷ outer)) line last (level_at wi rd wt l ∷ outer) (λ v. [])) (Some r) ≡ read_where (if l then rd else wi) line_read (Some r)
  branch-reads false true rd wt last l outer r inside within = absurd (false≢true (inside refl))
  branch-reads e false true wt last l outer r inside within = absurd (false≢true (within refl))
  branch-reads false false false wt last true outer r inside within = refl
  branch-reads false false false wt last false outer r inside within = refl
  branch-reads true false false wt last true outer r inside within = refl
  branch-reads true false false wt last false outer r inside within = refl
  branch-reads true true true wt last false outer r inside within = name-reads r
  branch-reads true true false true last false outer r inside within = begun-reads r
  branch-reads true true false false last false outer r inside within = name-reads r
  branch-reads true true true wt last true outer r inside within = refl
  branch-reads true true false true last true outer r inside within = refl
  branch-reads true true false false last true outer r inside within = refl

  -- the end of a group
  end-reads : (e wi rd wt l : Bool) (outer : List Open) (r : Reading) → (IsTrue wi → IsTrue e) → read_where e (λ a. reads_at_end (emptied a (level_at wi rd wt l ∷ outer)) line (level_at wi rd wt l ∷ outer) (λ v. [])) (Some r) ≡ read_where wi line_read (Some r)
  end-reads false true rd wt l outer r inside = absurd (false≢true (inside refl))
  end-reads false false rd wt l outer r inside = refl
  end-reads true false rd wt l outer r inside = refl
  end-reads true true true wt l outer r inside = name-reads r
  end-reads true true false true l outer r inside = name-reads r
  end-reads true true false false l outer r inside = name-reads r

  -- with what it includes, if nothing is included
  and-none : (all : List Read) (b : Bool) (r : Reading) → all ≡ all ++ read_where b (λ a. []) (Some r)
  and-none all b r = sym (ap (λ (l : List Read). all ++ l) (reads-none b (Some r)) ∙ append-nil all)

  module _ (features : ℕ → Bool) (entered : Condition) where
    abbrev opened : List PlainGroup → List Open
    opened groups = map (open_at features) groups

    chosen : (b : Bool) (x y : Condition) → (if b then value features x else value features y) ≡ value features (if b then x else y)
    chosen true x y = refl
    chosen false x y = refl

    branches-read : (last : Bool) (groups : List PlainGroup) (r : Reading) → AllFit features entered groups → read_where (value features entered) (λ a. reads_at_branch s f (emptied a (opened groups)) line last (opened groups) (λ v. [])) (Some r) ≡ read_where (value features (branch_read_in entered groups)) line_read (Some r)
    branches-read last [] r fit = refl
    branches-read last (g ∷ outer) r fit =
        let k = All-head (λ g'. Fits features entered g') g outer fit in
        branch-reads (value features entered) (value features g.within) (value features g.reads_when) (value features g.waits_when) last g.last (opened outer) r k.inside k.reads
        ∙ ap (λ (b : Bool). read_where b line_read (Some r)) (chosen g.last g.reads_when g.within)

    ends-read : (groups : List PlainGroup) (r : Reading) → AllFit features entered groups → read_where (value features entered) (λ a. reads_at_end (emptied a (opened groups)) line (opened groups) (λ v. [])) (Some r) ≡ read_where (value features (end_read_in entered groups)) line_read (Some r)
    ends-read [] r fit = refl
    ends-read (g ∷ outer) r fit =
        let k = All-head (λ g'. Fits features entered g') g outer fit in
        end-reads (value features entered) (value features g.within) (value features g.reads_when) (value features g.waits_when) g.last (opened outer) r k.inside

    role-reads : (role : Role) (groups : List PlainGroup) (r : Reading) → AllFit features entered groups → read_where (value features entered) (λ a. reads_by_role s f role (emptied a (opened groups)) line (λ v. [])) (Some r) ≡ read_where (value features (line_read_in role entered groups)) line_read (Some r) ++ read_where (value features (read_in entered groups)) (λ a. reads_named s f role a line.tokens) (Some r)
    role-reads begins groups r fit =
        group-reads (value features entered) (value features (read_in entered groups)) (opened groups) r (read-is features entered groups fit) (read-inside features entered groups fit)
        ∙ and-none (read_where (value features (read_in entered groups)) line_read (Some r)) (value features (read_in entered groups)) r
    role-reads begins_branch groups r fit =
        branches-read false groups r fit
        ∙ and-none (read_where (value features (branch_read_in entered groups)) line_read (Some r)) (value features (read_in entered groups)) r
    role-reads begins_last groups r fit =
        branches-read true groups r fit
        ∙ and-none (read_where (value features (branch_read_in entered groups)) line_read (Some r)) (value features (read_in entered groups)) r
    role-reads closes groups r fit =
        ends-read groups r fit
        ∙ and-none (read_where (value features (end_read_in entered groups)) line_read (Some r)) (value features (read_in entered groups)) r
    role-reads stands_alone groups r fit =
        alone-reads (value features entered) (value features (read_in entered groups)) (opened groups) r (read-is features entered groups fit) (read-inside features entered groups fit)

    -- what a directive line reads, and no line behind it
    pub line-reads : (role : Role) (groups : List PlainGroup) (o : Option Reading) → AllFit features entered groups → read_where (value features entered) (λ a. reads_by_role s f role (emptied a (opened groups)) line (λ v. [])) o ≡ read_where (value features (line_read_in role entered groups)) line_read o ++ read_where (value features (read_in entered groups)) (λ a. reads_named s f role a line.tokens) o
    line-reads role groups None fit = refl
    line-reads role groups (Some r) fit = role-reads role groups r fit

-- a line that belongs to a group includes nothing
pub no-inclusion : (s : Setting) (f : Following) (features : ℕ → Bool) (role : Role) (tokens : List PlainToken) (here : Bool) (before after : Option Reading) → role ≡ role_of tokens → ((r : Reading) → [] ≡ reads_named s f role r tokens) → read_where true (λ r. reads_included features f.deeper None r) after ≡ read_where here (λ r. reads_named s f (role_of tokens) r tokens) before
no-inclusion s f features role tokens here before after is none =
    reads-none true after
    ∙ sym (reads-none here before)
    ∙ reads-same here (λ r. []) (λ r. reads_named s f (role_of tokens) r tokens) before (λ r. none r ∙ ap (λ (k : Role). reads_named s f k r tokens) is)

-- a line that belongs to none
pub alone-named : (s : Setting) (f : Following) (tokens : List PlainToken) (here : Bool) (o : Option Reading) → stands_alone ≡ role_of tokens → read_where here (λ r. reads_of_inclusion s f r (directive_of tokens)) o ≡ read_where here (λ r. reads_named s f (role_of tokens) r tokens) o
alone-named s f tokens here o is = ap (λ (k : Role). read_where here (λ r. reads_named s f k r tokens) o) is
