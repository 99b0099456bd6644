use Rattle.std.proofs.Common.{arith, ◌≡◌, ◌≤◌, ◌<◌, ℕ, true, false, nat_lt, length, sym, ap, ap₂, ◌∙◌}
use Rattle.std.specs.Prelude.{◌&&◌}
use Rattle.std.proofs.lemmas.Bool.Decides.{nat_tests}
use Rattle.cond_compatible.specs.SeenTags.{tag_seen}
use Rattle.cond_compatible.proofs.Rows.{rows_all, is_below}
use Rattle.cond_compatible.proofs.alike.all_alike.Goals as goal

below : (k n : ℕ) → k < n → nat_lt k n ≡ true
below k n h = grind (arith, nat_tests)

not_below : (k n : ℕ) → n ≤ k → nat_lt k n ≡ false
not_below k n h = grind (arith, nat_tests)

pub returns : goal.returns
returns c =
    let structs = c.args.structs.now in
    let n = length structs in
    let all : c.loop.counter ≡ length c.args.structs.now = omega arith in
    λ on i j. rows_all on (λ i j. nat_lt i n && nat_lt j n) c.loop.rows.items n (c.loop.invariant.long ∙ all)
    (λ i j low. c.loop.invariant.full on i j (omega (arith, all, low)) ∙ ap (λ b. b && nat_lt j n) (sym (below i n low)))
    (λ i j high. ap (λ b. b && nat_lt j n) (not_below i n high)) i j
    ∙ sym (ap₂ (λ a b. a && b) (is_below (tag_seen on) structs i) (is_below (tag_seen on) structs j))
