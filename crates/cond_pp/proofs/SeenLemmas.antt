-- What a watch sees of what is read.
use Rattle.std.proofs.Common.{◌≡◌, Bool, true, false, ◌&&◌, ◌||◌, List, [], ◌∷◌, ◌++◌, IsTrue, Option, Some, None, refl, sym, ◌∙◌}
use Rattle.std.proofs.lemmas.Bool.{false≢true}
use Rattle.conditional.specs.Entries.{under}
use Rattle.c_text.specs.Token.{PlainToken}
use Rattle.c_text.specs.Preprocessing.{Reading}
use Rattle.active_tokens.specs.Reads.{Read, read_of}
use Rattle.read_walks.specs.Tests.{is_defined}
use Rattle.read_walks.specs.WalkReads.{by_token}
use Rattle.read_walks.specs.Laws.{TestIsJoined, TestIsByToken}
use Rattle.cond_pp.specs.Watches.{PlainSought, is_read_in, read_where}

-- one list behind another
pub seen-joined : TestIsJoined → (sought : Option PlainSought) (first second : List Read) → is_read_in sought (first ++ second) ≡ (is_read_in sought first || is_read_in sought second)
seen-joined joined None first second = refl
seen-joined joined (Some s) first second = joined s.places s.name first second

pub seen-none : (sought : Option PlainSought) → is_read_in sought [] ≡ false
seen-none None = refl
seen-none (Some s) = refl

no-token : (b : Bool) → ((b && false) || false) ≡ false
no-token true = refl
no-token false = refl

-- no token is read
seen-empty : (sought : Option PlainSought) (r : Reading) → is_read_in sought (read_of r [] ∷ []) ≡ false
seen-empty None r = refl
seen-empty (Some s) r = no-token (is_defined s.name r.table)

-- the tokens since the last directive line
pub seen-run : (sought : Option PlainSought) (here there : Bool) (run : List PlainToken) (o : Option Reading) → (IsTrue here → IsTrue there) → is_read_in sought (read_where here (λ r. read_of r run ∷ []) o) ≡ is_read_in sought (read_where there (λ r. read_of r (under here run) ∷ []) o)
seen-run sought here there run None inside = refl
seen-run sought true true run (Some r) inside = refl
seen-run sought true false run (Some r) inside = absurd (false≢true (inside refl))
seen-run sought false true run (Some r) inside = seen-none sought ∙ sym (seen-empty sought r)
seen-run sought false false run (Some r) inside = refl

-- reads that are the same token by token
pub seen-tokens : TestIsByToken → (sought : Option PlainSought) (first second : List Read) → by_token first ≡ by_token second → is_read_in sought first ≡ is_read_in sought second
seen-tokens by_tokens None first second same = refl
seen-tokens by_tokens (Some s) first second same = by_tokens s.places s.name first second same

pub seen-where : (sought : Option PlainSought) (b : Bool) (f g : Reading → List Read) (o : Option Reading) → ((r : Reading) → is_read_in sought (f r) ≡ is_read_in sought (g r)) → is_read_in sought (read_where b f o) ≡ is_read_in sought (read_where b g o)
seen-where sought b f g None h = refl
seen-where sought true f g (Some r) h = h r
seen-where sought false f g (Some r) h = refl
