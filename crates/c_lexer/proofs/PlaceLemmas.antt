-- Bytes with their places.
use Rattle.std.proofs.Common.{◌≡◌, ℕ, zero, suc, ◌+◌, ◌-◌, ◌<◌, ◌≤◌, List, [], ◌∷◌, length, get_or, take, drop, map, refl, sym, ap, subst, ◌∙◌, arith}
use Rattle.text_edits.specs.Span.{PlainSpan}
use Rattle.c_text.specs.Splices.{Placed, placed, bytes_of, splice_length, unless_splice, spliced_from, spliced}
use Rattle.c_text.specs.Lines.{start_of, end_of, span_of}
use Rattle.c_lexer.specs.Reading.{with_places, Rise}

abbrev pub places_of : List Placed → List ℕ
places_of text = map (λ p. p.at) text

pub with_places-of : (text : List Placed) → with_places (bytes_of text) (places_of text) ≡ text
with_places-of [] = refl
with_places-of (p ∷ text) = ap (λ t. p ∷ t) (with_places-of text)

pub bytes-with_places : (bytes places : List ℕ) → length places ≡ length bytes → bytes_of (with_places bytes places) ≡ bytes
bytes-with_places [] places h = refl
bytes-with_places (b ∷ bytes) [] h = absurd (omega (arith, h))
bytes-with_places (b ∷ bytes) (p ∷ places) h = ap (λ t. b ∷ t) (bytes-with_places bytes places (omega (arith, h)))

start-with_places : (bytes places : List ℕ) → length places ≡ length bytes → start_of (with_places bytes places) ≡ get_or places 0 0
start-with_places [] [] h = refl
start-with_places [] (p ∷ places) h = absurd (omega (arith, h))
start-with_places (b ∷ bytes) [] h = absurd (omega (arith, h))
start-with_places (b ∷ bytes) (p ∷ places) h = refl

end-with_places : (b p : ℕ) (bytes places : List ℕ) → length places ≡ length bytes → end_of (with_places (b ∷ bytes) (p ∷ places)) ≡ suc (get_or (p ∷ places) (length places) 0)
end-with_places b p [] [] h = refl
end-with_places b p [] (q ∷ places) h = absurd (omega (arith, h))
end-with_places b p (c ∷ bytes) [] h = absurd (omega (arith, h))
end-with_places b p (c ∷ bytes) (q ∷ places) h = end-with_places c q bytes places (omega (arith, h))

end-is : (bytes places : List ℕ) → 0 < length bytes → length places ≡ length bytes → end_of (with_places bytes places) ≡ get_or places (length places - 1) 0 + 1
end-is [] places some h = absurd (omega (arith, some))
end-is (b ∷ bytes) [] some h = absurd (omega (arith, h))
end-is (b ∷ bytes) (p ∷ places) some h =
    let last : length places ≡ length (p ∷ places) - 1 = omega arith in
    let e = end-with_places b p bytes places (omega (arith, h)) in
    e ∙ ap (λ k. suc (get_or (p ∷ places) k 0)) last ∙ (omega arith)

-- the span from the first to the last place
pub span-with_places : (bytes places : List ℕ) (span : PlainSpan) → 0 < length bytes → length places ≡ length bytes → span.start ≡ get_or places 0 0 → span.end ≡ get_or places (length places - 1) 0 + 1 → span ≡ span_of (with_places bytes places)
span-with_places bytes places span some h start end =
    let s = start ∙ sym (start-with_places bytes places h) in
    let e = end ∙ sym (end-is bytes places some h) in
    (ap (λ n. let x : PlainSpan = record { start = n; end = span.end } in x) s) ∙ (ap (λ n. let x : PlainSpan = record { start = start_of (with_places bytes places); end = n } in x) e)

-- Places that rise.
pub Rise-from : (low from to : ℕ) (places : List ℕ) → low ≤ from → Rise from to places → Rise low to places
Rise-from low from to [] le h = omega (arith, le, h)
Rise-from low from to (p ∷ places) le h = (omega (arith, le, h.0), h.1)

pub Rise-to : (from to high : ℕ) (places : List ℕ) → to ≤ high → Rise from to places → Rise from high places
Rise-to from to high [] le h = omega (arith, le, h)
Rise-to from to high (p ∷ places) le h = (h.0, Rise-to (suc p) to high places le h.1)

pub Rise-drop : (n from to : ℕ) (places : List ℕ) → Rise from to places → Rise from to (drop n places)
Rise-drop zero from to places h = h
Rise-drop (suc n) from to [] h = h
Rise-drop (suc n) from to (p ∷ places) h = Rise-from from (suc p) to (drop n places) (omega (arith, h.0)) (Rise-drop n (suc p) to places h.1)

pub Rise-within : (from to : ℕ) (places : List ℕ) → Rise from to places → from ≤ to
Rise-within from to [] h = h
Rise-within from to (p ∷ places) h = let le = Rise-within (suc p) to places h.1 in omega (arith, h.0, le)

pub Rise-take : (n from to : ℕ) (places : List ℕ) → Rise from to places → Rise from to (take n places)
Rise-take zero from to places h = Rise-within from to places h
Rise-take (suc n) from to [] h = h
Rise-take (suc n) from to (p ∷ places) h = (h.0, Rise-take n (suc p) to places h.1)

Rise-last : (from to p : ℕ) (places : List ℕ) → Rise from to (p ∷ places) → (p ≤ get_or (p ∷ places) (length places) 0) × (get_or (p ∷ places) (length places) 0 < to)
Rise-last from to p [] h = (omega arith, omega (arith, h.1))
Rise-last from to p (q ∷ places) h = let e = Rise-last (suc p) to q places h.1 in (omega (arith, e.0, h.1.0), e.1)

pub Rise-ordered : (from to : ℕ) (places : List ℕ) → Rise from to places → get_or places 0 0 ≤ get_or places (length places - 1) 0
Rise-ordered from to [] h = omega arith
Rise-ordered from to (p ∷ places) h =
    let last : length places ≡ length (p ∷ places) - 1 = omega arith in
    subst (λ k. p ≤ get_or (p ∷ places) k 0) last (Rise-last from to p places h).0

pub Rise-below : (from to : ℕ) (places : List ℕ) → 0 < length places → Rise from to places → get_or places (length places - 1) 0 < to
Rise-below from to [] some h = absurd (omega (arith, some))
Rise-below from to (p ∷ places) some h =
    let last : length places ≡ length (p ∷ places) - 1 = omega arith in
    subst (λ k. get_or (p ∷ places) k 0 < to) last (Rise-last from to p places h).1

-- what stands behind the first bytes begins at their end
pub Rise-behind : (n from to : ℕ) (text : List Placed) → n < length text → Rise from to (places_of text) → Rise (end_of (take (suc n) text)) to (places_of (drop (suc n) text))
Rise-behind n from to [] w h = absurd (omega (arith, w))
Rise-behind zero from to (p ∷ text) w h = h.1
Rise-behind (suc n) from to (p ∷ []) w h = absurd (omega (arith, w))
Rise-behind (suc n) from to (p ∷ q ∷ text) w h = Rise-behind n (suc p.at) to (q ∷ text) (omega (arith, w)) h.1

-- the places of a text without splices rise
by_splice : (k byte at : ℕ) (rest : List ℕ) → ((more : ℕ) → Rise (suc at) (suc at + length rest) (places_of (spliced_from more (suc at) rest))) → Rise at (suc at + length rest) (places_of (unless_splice k (placed byte at) (λ more. spliced_from more (suc at) rest)))
by_splice zero byte at rest h = (omega arith, h 0)
by_splice (suc more) byte at rest h = Rise-from at (suc at) (suc at + length rest) (places_of (spliced_from more (suc at) rest)) (omega arith) (h more)

Rise-spliced_from : (text : List ℕ) (more at : ℕ) → Rise at (at + length text) (places_of (spliced_from more at text))
Rise-spliced_from [] more at = omega arith
Rise-spliced_from (byte ∷ rest) (suc more) at =
    let e : suc at + length rest ≡ at + length (byte ∷ rest) = omega arith in
    subst (λ to. Rise at to (places_of (spliced_from more (suc at) rest))) e
    (Rise-from at (suc at) (suc at + length rest) (places_of (spliced_from more (suc at) rest)) (omega arith) (Rise-spliced_from rest more (suc at)))
Rise-spliced_from (byte ∷ rest) zero at =
    let e : suc at + length rest ≡ at + length (byte ∷ rest) = omega arith in
    subst (λ to. Rise at to (places_of (spliced_from 0 at (byte ∷ rest)))) e
    (by_splice (splice_length (byte ∷ rest)) byte at rest (λ more. Rise-spliced_from rest more (suc at)))

pub Rise-spliced : (text : List ℕ) → Rise 0 (length text) (places_of (spliced text))
Rise-spliced text =
    let e : 0 + length text ≡ length text = omega arith in
    subst (λ to. Rise 0 to (places_of (spliced text))) e (Rise-spliced_from text 0 0)
