use Rattle.std.specs.Prelude.{◌≡◌, ◌↔◌, ◌⊎◌, ℕ, ◌+◌, ◌-◌, ◌^◌, ◌<◌, ◌≤◌, min, Bool, true, false}

-- the count after one more: it stands still at the end of `u64`
abbrev pub raised : ℕ → ℕ
raised count = min (count + 1) (2 ^ 64 - 1)

-- a count of faults after a call: one more where the call was a fault
abbrev pub count_after : Bool → ℕ → ℕ
count_after true count = raised count
count_after false count = count

-- the count rose: it is greater than before, or stands at the end of `u64`
abbrev pub Rose : ℕ → ℕ → Type 0
Rose before now = raised before ≤ now

-- the count didn't fall, it rose where there was a fault, and, where it is exact, it stood where there was none
pub record HasCause (exact : Type 0) (before now : ℕ) (fault : Type 0) : Type 0 where
  pub kept : before ≤ now
  pub rose : fault → Rose before now
  pub stood : exact → (fault → ⊥) → now ≡ before

-- for a count of `u64`, to rise is to be greater than before or at the end
abbrev pub RoseIsGreaterOrLast : Type 0
RoseIsGreaterOrLast =
    (before now : ℕ) → now < 2 ^ 64 → (Rose before now ↔ ((before < now) ⊎ (now ≡ 2 ^ 64 - 1)))

-- a count that rose in a part of a run and fell in no other part rose over the whole run
abbrev pub RiseStays : Type 0
RiseStays =
    (first before now last : ℕ) → first ≤ before → Rose before now → now ≤ last → Rose first last
