use Rattle.std.specs.Prelude.{Bool, true, false, Result, Ok, Err}
use Rattle.project_store.specs.declared.store.StoreFault.{StoreFault}
use Rattle.project_store.specs.declared.store.StoreFault.TheVariants.{Failed, Memory}

-- the read failed for another cause than want of memory
abbrev pub is_failed : {T : Type 0} → Result T StoreFault → Bool
is_failed (Ok bytes) = false
is_failed (Err Failed) = true
is_failed (Err Memory) = false
