-- What a place brings along, step by step: a class is the least one, and the class of each of its tokens.
use Rattle.std.proofs.Common.{Bool, List, IsTrue}
use Rattle.program_occurrences.specs.Occurrences.{UnitNames}
use Rattle.program_occurrences.specs.Classes.{PlainFileToken, Brings, IsBrought, itself, brought}
use Rattle.program_occurrences.specs.Laws.{TokensBringBack}
use Rattle.reference_classes.specs.Products.{AreOfProduct}
use Rattle.reference_classes.specs.Laws.{ClassesAreLeast, ClassesAreOne}

holds_of_all :
    {AreUnits : List UnitNames → Type 0} {place : PlainFileToken} (holds : PlainFileToken → Bool) → IsTrue (holds place)
    → ((units : List UnitNames) (a b : PlainFileToken) → AreUnits units → IsTrue (holds a) → Brings units a b → IsTrue (holds b))
    → (token : PlainFileToken) → IsBrought AreUnits place token → IsTrue (holds token)
holds_of_all holds first closed token itself = first
holds_of_all holds first closed token (brought {member = member} units are inner brings) =
    closed units member token are (holds_of_all holds first closed member inner) brings

pub classes_are_least : ClassesAreLeast
classes_are_least project files place holds first closed token member =
    holds_of_all {AreUnits = AreOfProduct project files} holds first closed token member

brought_on : {AreUnits : List UnitNames → Type 0} {a b c : PlainFileToken} → IsBrought AreUnits a b → IsBrought AreUnits b c → IsBrought AreUnits a c
brought_on h itself = h
brought_on h (brought units are inner brings) = brought units are (brought_on h inner) brings

brought_back : TokensBringBack → {AreUnits : List UnitNames → Type 0} {a b : PlainFileToken} → IsBrought AreUnits a b → IsBrought AreUnits b a
brought_back back itself = itself
brought_back back (brought {member = member} {other = other} units are inner brings) =
    brought_on (brought units are itself (back units member other brings)) (brought_back back inner)

pub classes_are_one : TokensBringBack → ClassesAreOne
classes_are_one back project files place member token h = (λ t. brought_on (brought_back back h) t, λ t. brought_on h t)
