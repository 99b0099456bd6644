-- The walk over the lines of a file, as the code takes it.
use Rattle.std.proofs.Common.{◌≡◌, ℕ, zero, suc, ◌+◌, ◌-◌, ◌<◌, ◌≤◌, true, List, [], ◌∷◌, get_or, drop, length, map, Option, Some, None, refl, ap, sym, ◌∙◌, subst, arith}
use Rattle.std.specs.Prelude.{nat_lt, is_some, Result, Ok, Err, IsErrAnd}
use Rattle.std.proofs.lemmas.Bool.Decides.{nat_tests}
use Rattle.std.proofs.lemmas.List.{drop_more, drop_all}
use Rattle.c_text.specs.Token.{PlainToken}
use Rattle.c_text.specs.Lines.{PlainLine, AreItsLines}
use Rattle.c_text.specs.Preprocessing as spec
use Rattle.c_text.specs.Preprocessing.{Reading, Flow, Setting, Syntax, IsSyntaxOf, on, refused, then_read, setting}
use Rattle.file_walks.specs.Walk.{Walk, Open, step, finished, walked, start}
use Rattle.file_walks.specs.Nests.{Nest, nest_of, nest_behind, by_place, misplaced_in, break_at, break_at_end, break_of}
use Rattle.unit_files.specs.Refusals.{refusal_view}
use Rattle.unit_files.specs.declared.inclusions.Source.{Source}
use Rattle.unit_files.specs.Inclusions.{plain_source, IsAmong}
use Rattle.unit_files.specs.SourceFiles.{source_number, text_of, its_lines, deeper_of}
use Rattle.unit_files.specs.Laws.{SourcesAreWalked, SourcesBreak}
use Rattle.plain_pp.specs.declared.errors.PpError.{PpError}
use Rattle.plain_pp.specs.declared.errors.PpError.TheVariants.{Refused, Memory}
use Rattle.plain_pp.specs.Results.{Says}
use Rattle.unit_files.specs.Settings.{entered}
use Rattle.plain_pp.specs.Readings.{Follows}

-- the walk stands before these lines, and all that is read comes to this flow
pub record Stands (s : Setting) (file length : ℕ) (w : Walk) (lines : List PlainLine) (flow : Flow) : Type 0 where
  pub flow_is : walked s w lines ≡ flow
  pub break_is : s.broken ≡ break_of file length (misplaced_in (nest_of w.groups) lines)

-- ---- one line

-- the premise under which a line is walked
pub walk-breaks : (s : Setting) (file length : ℕ) (w : Walk) (line : PlainLine) (lines : List PlainLine) (flow : Flow) → Stands s file length w (line ∷ lines) flow → nest_behind (nest_of w.groups) line ≡ None → s.broken ≡ break_at file line
walk-breaks s file length w line lines flow stands h =
    stands.break_is ∙ ap (λ (o : Option Nest). break_of file length (by_place o line (λ n. misplaced_in n lines))) h

-- the line is walked, and then a file is read
pub walk-goes : (s : Setting) (file length : ℕ) (w v : Walk) (line : PlainLine) (lines : List PlainLine) (flow : Flow) (o : Option spec.Source) (r : Reading) → Stands s file length w (line ∷ lines) flow → nest_behind (nest_of w.groups) line ≡ Some (nest_of v.groups) → ((next : Walk → Flow) → step s w line next ≡ then_read (entered s.deeper o v.reading) (λ a. next (record v { reading = a }))) → entered s.deeper o v.reading ≡ on r → Stands s file length (record v { reading = r }) lines flow
walk-goes s file length w v line lines flow o r stands moved goes read =
    let f = λ (a : Reading). walked s (record v { reading = a }) lines in
    record {
      flow_is = sym (ap (λ x. then_read x f) read) ∙ sym (goes (λ u. walked s u lines)) ∙ stands.flow_is;
      break_is = stands.break_is ∙ ap (λ (p : Option Nest). break_of file length (by_place p line (λ n. misplaced_in n lines))) moved;
    }

pub walk-inner : (s : Setting) (file length : ℕ) (w v : Walk) (line : PlainLine) (lines : List PlainLine) (flow : Flow) (o : Option spec.Source) (why : spec.Refusal) → Stands s file length w (line ∷ lines) flow → ((next : Walk → Flow) → step s w line next ≡ then_read (entered s.deeper o v.reading) (λ a. next (record v { reading = a }))) → entered s.deeper o v.reading ≡ refused why → flow ≡ refused why
walk-inner s file length w v line lines flow o why stands goes read =
    let f = λ (a : Reading). walked s (record v { reading = a }) lines in
    sym stands.flow_is ∙ goes (λ u. walked s u lines) ∙ ap (λ x. then_read x f) read

pub walk-stops : (s : Setting) (file length : ℕ) (w : Walk) (line : PlainLine) (lines : List PlainLine) (flow : Flow) (why : spec.Refusal) → Stands s file length w (line ∷ lines) flow → ((next : Walk → Flow) → step s w line next ≡ refused why) → flow ≡ refused why
walk-stops s file length w line lines flow why stands stops = sym stands.flow_is ∙ stops (λ u. walked s u lines)

pub walk-ends : (s : Setting) (file length : ℕ) (w : Walk) (flow : Flow) → Stands s file length w [] flow → finished s w ≡ flow
walk-ends s file length w flow stands = stands.flow_is

pub walk-end_breaks : (s : Setting) (file length : ℕ) (w : Walk) (flow : Flow) → Stands s file length w [] flow → s.broken ≡ break_at_end file length
walk-end_breaks s file length w flow stands = stands.break_is

-- ---- files within files

above : (n : ℕ) → nat_lt 0 (suc n) ≡ true
above n = grind (arith, nat_tests)

pub above-zero : (n : ℕ) → nat_lt 0 n ≡ true → 0 < n
above-zero n h = grind (arith, nat_tests)

pub deeper-is : (s : spec.Sources) (x : Syntax) (more : ℕ) → is_some (deeper_of s x more) ≡ nat_lt 0 more
deeper-is s x zero = refl
deeper-is s x (suc more) = sym (above more)

pub deeper-read : (s : spec.Sources) (x : Syntax) (more : ℕ) (source : spec.Source) (r : Reading) → 0 < more → spec.read_source s x (more - 1) source r ≡ entered (deeper_of s x more) (Some source) r
deeper-read s x zero source r h = absurd (omega arith)
deeper-read s x (suc more) source r h =
    let e : suc more - 1 ≡ more = omega arith in
    ap (λ n. spec.read_source s x n source r) e

-- ---- the loop over the lines

pub starts-at : SourcesAreWalked → SourcesBreak → (s : spec.Sources) (x : Syntax) → IsSyntaxOf s x → (source : Source) → IsAmong (length s.files) source → (more file : ℕ) (text : List ℕ) (all lines : List PlainLine) (r : Reading) (w : Walk) → file ≡ source_number (plain_source source) → text ≡ text_of s (plain_source source) → AreItsLines file text all → lines ≡ its_lines (plain_source source) all → w.reading ≡ r → w.run ≡ [] → w.groups ≡ [] → Stands (setting s x (plain_source source) (deeper_of s x more)) file (length text) w lines (spec.read_source s x more (plain_source source) r)
starts-at are_walked break_there s x is source there more file text all lines r w file_is text_is are lines_are reading_is run_is groups_is =
    let p = plain_source source in
    let st = setting s x p (deeper_of s x more) in
    let flow = spec.read_source s x more p r in
    let e : start r ≡ w =
    ap (λ (v : Reading). record_of v [] []) (sym reading_is)
    ∙ ap (λ ts. record_of w.reading ts []) (sym run_is) ∙ ap (λ gs. record_of w.reading w.run gs) (sym groups_is)
    in
    let its : AreItsLines (source_number p) (text_of s p) all =
    subst (λ (t : List ℕ). AreItsLines (source_number p) t all) text_is (subst (λ (n : ℕ). AreItsLines n text all) file_is are)
    in
    let starts : Stands st (source_number p) (length (text_of s p)) (start r) (its_lines p all) flow = record {
      flow_is = are_walked s x is source there more all its r;
      break_is = break_there s x is source there all its;
    } in
    let at_file = subst (λ (n : ℕ). Stands st n (length (text_of s p)) (start r) (its_lines p all) flow) (sym file_is) starts in
    let at_text = subst (λ (t : List ℕ). Stands st file (length t) (start r) (its_lines p all) flow) (sym text_is) at_file in
    let at_lines = subst (λ (ls : List PlainLine). Stands st file (length text) (start r) ls flow) (sym lines_are) at_text in
    subst (λ (v : Walk). Stands st file (length text) v lines flow) e at_lines
  where
    record_of : Reading → List PlainToken → List Open → Walk
    record_of r run groups = record { reading = r; run = run; groups = groups }

pub stands-at : {X : Type 0} (f : X → PlainLine) (s : Setting) (file length' : ℕ) (w : Walk) (lines : List X) (i : ℕ) (line : X) (flow : Flow) → i < length lines → line ≡ get_or lines i line → Stands s file length' w (map f (drop i lines)) flow → Stands s file length' w (f line ∷ map f (drop (i + 1) lines)) flow
stands-at f s file length' w lines i line flow h is stands =
    let e : map f (drop i lines) ≡ f line ∷ map f (drop (i + 1) lines) = ap (λ ls. map f ls) (drop_more lines i line h ∙ ap (λ l. l ∷ drop (i + 1) lines) (sym is)) in
    subst (λ (ls : List PlainLine). Stands s file length' w ls flow) e stands

pub stands-end : {X : Type 0} (f : X → PlainLine) (s : Setting) (file length' : ℕ) (w : Walk) (lines : List X) (i : ℕ) (flow : Flow) → length lines ≤ i → Stands s file length' w (map f (drop i lines)) flow → Stands s file length' w [] flow
stands-end f s file length' w lines i flow h stands =
    subst (λ (ls : List PlainLine). Stands s file length' w ls flow) (ap (λ ls. map f ls) (drop_all i lines h)) stands

pub says-stops : (s : Setting) (file length : ℕ) (w : Walk) (line : PlainLine) (lines : List PlainLine) (flow : Flow) (e : PpError) → Stands s file length w (line ∷ lines) flow → ((next : Walk → Flow) → Says e (λ why. step s w line next ≡ refused why)) → Says e (λ why. flow ≡ refused why)
says-stops s file length w line lines flow (Refused kind at) stands h = walk-stops s file length w line lines flow (refusal_view kind at) stands h
says-stops s file length w line lines flow Memory stands h = tt

pub says-inner : (s : Setting) (file length : ℕ) (w v : Walk) (line : PlainLine) (lines : List PlainLine) (flow : Flow) (o : Option spec.Source) (e : PpError) → Stands s file length w (line ∷ lines) flow → ((next : Walk → Flow) → step s w line next ≡ then_read (entered s.deeper o v.reading) (λ a. next (record v { reading = a }))) → Says e (λ why. entered s.deeper o v.reading ≡ refused why) → Says e (λ why. flow ≡ refused why)
says-inner s file length w v line lines flow o (Refused kind at) stands goes read = walk-inner s file length w v line lines flow o (refusal_view kind at) stands goes read
says-inner s file length w v line lines flow o Memory stands goes read = tt

pub follows-err : {X : Type 0} (result : Result X PpError) (e : PpError) (flow : Flow) (r : Reading) → IsErrAnd result (λ f. f ≡ e) → Says e (λ why. flow ≡ refused why) → Follows result flow r
follows-err (Ok v) e flow r is says = absurd is
follows-err (Err f) e flow r is says = subst (λ (g : PpError). Says g (λ why. flow ≡ refused why)) (sym is) says
