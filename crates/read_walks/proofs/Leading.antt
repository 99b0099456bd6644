-- A line leads to one walk, which the reading alone tells, or to a refusal.
use Rattle.std.proofs.Common.{◌≡◌, Bool, true, false, List, [], ◌∷◌, ◌++◌, map, Option, Some, None, refl, ap, sym, ◌∙◌}
use Rattle.std.specs.Prelude.{if◌then◌else◌, drop}
use Rattle.std.proofs.lemmas.List.{append_assoc}
use Rattle.c_text.specs.declared.token.TokenKind.{TokenKind}
use Rattle.c_text.specs.declared.token.TokenKind.TheVariants.{Name, Keyword, Number, Text}
use Rattle.c_text.specs.Token.{PlainToken}
use Rattle.c_text.specs.Lines.{PlainLine}
use Rattle.c_text.specs.Trees.{Role, begins, begins_branch, begins_last, closes, stands_alone, role_of}
use Rattle.c_text.specs.Preprocessing.{Reading, Refusal, Flow, Setting, on, refused, then_read, unless, Condition, holds, fails, condition_at, by_condition, read_run, read_directive, refused_ignored, feature_token}
use Rattle.active_tokens.specs.Reads.{Read, read_of, Following, unless_refused, by_truth, reads_of_directive}
use Rattle.active_tokens.specs.Reads as active
use Rattle.file_walks.specs.Walk.{Walk, Open, reads, waits, passed, skipped, with_groups, text_read, are_read, begun, group_read, branch_read, end_read, directive_read, by_role}
use Rattle.file_walks.specs.Nests.{nest_of, behind_role, behind_branch, behind_end}
use Rattle.read_walks.specs.WalkReads.{reads_at_end, reads_at_begun, reads_at_group, reads_at_branch, reads_at_directive, reads_by_role}
use Rattle.read_walks.specs.Laws.{Leads, goes_on, stops, LinesLeadOn, WalksAreOne}

module _ (Holds : Walk → Type 0) where
  leads-to : (v : Walk) → Holds v → Leads Holds (λ next. next v) (λ next. next v)
  leads-to v h = goes_on v h (λ next. refl) (λ next. refl)

  leads-stop : (why : Refusal) (what : List Read) → Leads Holds (λ next. refused why) (λ next. what)
  leads-stop why what = stops why (λ next. refl) (λ next. refl)

  leads-before : (first : List Read) (reading : (Walk → Flow) → Flow) (what : (Walk → List Read) → List Read) → Leads Holds reading what → Leads Holds reading (λ next. first ++ what next)
  leads-before first reading what (goes_on after h k m) =
      goes_on after h k (λ next. ap (λ l. first ++ l) (m next) ∙ sym (append_assoc first (what (λ v. [])) (next after)))
  leads-before first reading what (stops why k m) = stops why k (λ next. ap (λ l. first ++ l) (m next))

  leads-flow : (x : Flow) (reading : Reading → (Walk → Flow) → Flow) (what : Reading → (Walk → List Read) → List Read) → ((r : Reading) → Leads Holds (reading r) (what r)) → Leads Holds (λ next. then_read x (λ r. reading r next)) (λ next. active.reads_behind x (λ r. what r next))
  leads-flow (on r) reading what h = h r
  leads-flow (refused why) reading what h = leads-stop why []

  leads-unless : (found : Option Refusal) (reading : (Walk → Flow) → Flow) (what : (Walk → List Read) → List Read) → Leads Holds reading what → Leads Holds (λ next. unless found (reading next)) (λ next. unless_refused found (what next))
  leads-unless None reading what h = h
  leads-unless (Some why) reading what h = leads-stop why []

  module _ (s : Setting) (f : Following) where
    leads-condition : (c : Condition) (v w : Walk) → Holds v → Holds w → Leads Holds (λ next. by_condition s c (next v) (next w)) (λ next. by_truth s f c (next v) (next w))
    leads-condition (holds true) v w h k = leads-to v h
    leads-condition (holds false) v w h k = leads-to w k
    leads-condition (fails why) v w h k = leads-stop why []

    begun-leads : (w : Walk) (line : PlainLine) (last : Bool) (outer : List Open) → Holds (with_groups w (reads last ∷ outer)) → Holds (with_groups w (waits last ∷ outer)) → Leads Holds (begun s w line last outer) (reads_at_begun s f w line last outer)
    begun-leads w line last outer h k =
        let c = condition_at s.value_of w.reading.table line.tokens in
        let v = with_groups w (reads last ∷ outer) in
        let u = with_groups w (waits last ∷ outer) in
        leads-before (read_of w.reading line.tokens ∷ []) (λ next. by_condition s c (next v) (next u)) (λ next. by_truth s f c (next v) (next u)) (leads-condition c v u h k)

    -- a line of which only the name counts
    name-leads : (r : Reading) (line : PlainLine) (v : Walk) → Holds v → Leads Holds (λ next. unless (refused_ignored (drop 2 line.tokens)) (next v)) (λ next. read_of r line.tokens ∷ unless_refused (refused_ignored (drop 2 line.tokens)) (next v))
    name-leads r line v h =
        let found = refused_ignored (drop 2 line.tokens) in
        leads-before (read_of r line.tokens ∷ []) (λ next. unless found (next v)) (λ next. unless_refused found (next v)) (leads-unless found (λ next. next v) (λ next. next v) (leads-to v h))

module _ (s : Setting) (f : Following) (r : Reading) (line : PlainLine) where
  abbrev at : List Open → Walk
  at groups = record { reading = r; run = []; groups = groups }

  group-leads : (groups : List Open) → Leads (λ v. Some (false ∷ nest_of groups) ≡ Some (nest_of v.groups)) (group_read s (at groups) line) (reads_at_group s f (at groups) line)
  group-leads [] = begun-leads _ s f (at []) line false [] refl refl
  group-leads (reads e ∷ outer) = begun-leads _ s f (at (reads e ∷ outer)) line false (reads e ∷ outer) refl refl
  group-leads (waits e ∷ outer) = leads-to _ (at (skipped false ∷ waits e ∷ outer)) refl
  group-leads (passed e ∷ outer) = leads-to _ (at (skipped false ∷ passed e ∷ outer)) refl
  group-leads (skipped e ∷ outer) = leads-to _ (at (skipped false ∷ skipped e ∷ outer)) refl

  branch-leads : (last : Bool) (groups : List Open) → Leads (λ v. behind_branch last (nest_of groups) ≡ Some (nest_of v.groups)) (branch_read s (at groups) line last groups) (reads_at_branch s f (at groups) line last groups)
  branch-leads last [] = leads-stop _ s.broken (read_of r line.tokens ∷ [])
  branch-leads last (reads false ∷ outer) = name-leads _ s f r line (at (passed last ∷ outer)) refl
  branch-leads last (waits false ∷ outer) = begun-leads _ s f (at (waits false ∷ outer)) line last outer refl refl
  branch-leads last (passed false ∷ outer) = name-leads _ s f r line (at (passed last ∷ outer)) refl
  branch-leads last (skipped false ∷ outer) = leads-to _ (at (skipped last ∷ outer)) refl
  branch-leads last (reads true ∷ outer) = leads-stop _ s.broken (read_of r line.tokens ∷ [])
  branch-leads last (waits true ∷ outer) = leads-stop _ s.broken []
  branch-leads last (passed true ∷ outer) = leads-stop _ s.broken []
  branch-leads last (skipped true ∷ outer) = leads-stop _ s.broken []

  end-leads : (groups : List Open) → Leads (λ v. behind_end (nest_of groups) ≡ Some (nest_of v.groups)) (end_read s (at groups) line groups) (reads_at_end (at groups) line groups)
  end-leads [] = leads-stop _ s.broken (read_of r line.tokens ∷ [])
  end-leads (reads e ∷ outer) = name-leads _ s f r line (at outer) refl
  end-leads (waits e ∷ outer) = name-leads _ s f r line (at outer) refl
  end-leads (passed e ∷ outer) = name-leads _ s f r line (at outer) refl
  end-leads (skipped e ∷ outer) = leads-to _ (at outer) refl

  alone-leads : (groups : List Open) → Leads (λ v. Some (nest_of groups) ≡ Some (nest_of v.groups)) (directive_read s (at groups) line) (reads_at_directive s f (at groups) line)
  alone-leads groups = by_cases (are_read groups)
    where
      by_cases :
          (b : Bool)
          → Leads (λ v. Some (nest_of groups) ≡ Some (nest_of v.groups)) (λ next. if b then then_read (read_directive s r line.tokens) (λ a. next (record { reading = a; run = []; groups = groups })) else next (at groups))
          (λ next. if b then reads_of_directive s f r line.tokens ++ active.reads_behind (read_directive s r line.tokens) (λ a. next (record { reading = a; run = []; groups = groups })) else next (at groups))
      by_cases true =
          leads-before _ (reads_of_directive s f r line.tokens) _ _ (leads-flow _ (read_directive s r line.tokens) (λ a next. next (record { reading = a; run = []; groups = groups })) (λ a next. next (record { reading = a; run = []; groups = groups })) (λ a. leads-to _ (record { reading = a; run = []; groups = groups }) refl))
      by_cases false = leads-to _ (at groups) refl

  role-leads : (role : Role) (groups : List Open) → Leads (λ v. behind_role role (nest_of groups) ≡ Some (nest_of v.groups)) (by_role s role (at groups) line) (reads_by_role s f role (at groups) line)
  role-leads begins groups = group-leads groups
  role-leads begins_branch groups = branch-leads false groups
  role-leads begins_last groups = branch-leads true groups
  role-leads closes groups = end-leads groups
  role-leads stands_alone groups = alone-leads groups

text-nest : (w : Walk) (line : PlainLine) → Some (nest_of w.groups) ≡ Some (nest_of (text_read w line).groups)
text-nest w line = by_cases (are_read w.groups)
  where
    by_cases : (b : Bool) → Some (nest_of w.groups) ≡ Some (nest_of (if b then record w { run = w.run ++ line.tokens } else w).groups)
    by_cases true = refl
    by_cases false = refl

pub lines-lead-on : LinesLeadOn
lines-lead-on s f w line = by_cases line.directive
  where
    by_cases :
        (b : Bool)
        → Leads (λ v. (if b then behind_role (role_of line.tokens) (nest_of w.groups) else Some (nest_of w.groups)) ≡ Some (nest_of v.groups))
        (λ next. if b then then_read (read_run w.reading w.run) (λ a. by_role s (role_of line.tokens) (record { reading = a; run = []; groups = w.groups }) line next) else next (text_read w line))
        (λ next. if b then read_of w.reading w.run ∷ active.reads_behind (read_run w.reading w.run) (λ a. reads_by_role s f (role_of line.tokens) (record { reading = a; run = []; groups = w.groups }) line next) else next (text_read w line))
    by_cases true =
        leads-before _ (read_of w.reading w.run ∷ []) _ _ (leads-flow _ (read_run w.reading w.run) (λ a. by_role s (role_of line.tokens) (record { reading = a; run = []; groups = w.groups }) line) (λ a. reads_by_role s f (role_of line.tokens) (record { reading = a; run = []; groups = w.groups }) line) (λ a. role-leads s f a line (role_of line.tokens) w.groups))
    by_cases false = leads-to _ (text_read w line) (text-nest w line)

-- ---- walks that no reading tells apart

-- open groups as tokens
abbrev written : TokenKind → Bool → PlainToken
written kind last = record feature_token { kind = kind; joined = last }

abbrev token_of : Open → PlainToken
token_of (reads e) = written Name e
token_of (waits e) = written Keyword e
token_of (passed e) = written Number e
token_of (skipped e) = written Text e

abbrev by_kind : TokenKind → Bool → Open
by_kind Name e = reads e
by_kind Keyword e = waits e
by_kind Number e = passed e
by_kind other e = skipped e

group-back : (g : Open) → by_kind (token_of g).kind (token_of g).joined ≡ g
group-back (reads e) = refl
group-back (waits e) = refl
group-back (passed e) = refl
group-back (skipped e) = refl

abbrev groups_of : List PlainToken → List Open
groups_of tokens = map (λ t. by_kind t.kind t.joined) tokens

groups-back : (groups : List Open) → groups_of (map token_of groups) ≡ groups
groups-back [] = refl
groups-back (g ∷ groups) =
    ap (λ (o : Open). o ∷ groups_of (map token_of groups)) (group-back g) ∙ ap (λ l. g ∷ l) (groups-back groups)

abbrev with_tokens : List PlainToken → Reading
with_tokens tokens = record { table = λ name. None; tokens = tokens }

pub walks-are-one : WalksAreOne
walks-are-one a b same =
    let runs : a.run ≡ b.run = ap (λ (r : Reading). r.tokens) (same (λ w. with_tokens w.run)) in
    let groups : a.groups ≡ b.groups =
    sym (groups-back a.groups) ∙ ap (λ (r : Reading). groups_of r.tokens) (same (λ w. with_tokens (map token_of w.groups)))
    ∙ groups-back b.groups
    in
    ap (λ (r : Reading). let w : Walk = record a { reading = r } in w) (same (λ w. w.reading))
    ∙ ap (λ (ts : List PlainToken). let w : Walk = record a { reading = b.reading; run = ts } in w) runs
    ∙ ap (λ (gs : List Open). let w : Walk = record b { groups = gs } in w) groups
