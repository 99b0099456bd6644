use Rattle.std.proofs.Common.{◌≡◌, ◌+◌, Some, None, length, map, position, string_bytes, refl, ◌∙◌, ap, arith}
use Rattle.std.proofs.lemmas.List.{length-map}
use Rattle.std.specs.Str.{bytes_eq}
use Rattle.rename_words.specs.Steps.{file_of}
use Rattle.rename_words.proofs.Numbers.{position_in_first, position_in_second}
use Rattle.rename_words.proofs.ProjectNames.{names_are}
use Rattle.rename_words.proofs.fits.file_number.Goals as goal

pub returns-in-Some : goal.returns-in-Some
returns-in-Some c =
    let test = bytes_eq c.args.file.now in
    let units = c.args.project.now.units.items in
    position_in_first test (map string_bytes c.deref.result.now) (map file_of units) c.in-Some.number c.in-Some.ensures
    ∙ ap (position test) (names_are c.args.project.now c.deref.result.now units c.deref.ensures.value refl)

pub returns-in-Some-unit_number : goal.returns-in-Some-unit_number
returns-in-Some-unit_number c =
    let test = bytes_eq c.args.file.now in
    let headers = c.deref.result.now in
    let units = c.deref-in-None.result.now in
    let long : c.len.result ≡ length (map string_bytes headers) = omega (arith, c.len.ensures, c.deref.ensures.len, length-map headers string_bytes) in
    ap (λ n. Some (n + c.in-Some-unit_number.number)) long
    ∙ (position_in_second test (map string_bytes headers) (map file_of units) (Some c.in-Some-unit_number.number) c.in-None.ensures c.in-Some-unit_number.ensures.first
    ∙ ap (position test) (names_are c.args.project.now headers units c.deref.ensures.value c.deref-in-None.ensures.value))

pub returns-in-None-unit_number : goal.returns-in-None-unit_number
returns-in-None-unit_number c =
    let test = bytes_eq c.args.file.now in
    let headers = c.deref.result.now in
    let units = c.deref-in-None.result.now in
    position_in_second test (map string_bytes headers) (map file_of units) None c.in-None.ensures c.in-None-unit_number.ensures.first
    ∙ ap (position test) (names_are c.args.project.now headers units c.deref.ensures.value c.deref-in-None.ensures.value)
