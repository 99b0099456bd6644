use Rattle.c_text.specs.Token.{plain_token}
use Rattle.c_text.specs.Preprocessing as spec
use Rattle.unit_files.specs.declared.tests.Test.{Test}

-- a `defined` test
abbrev pub plain_test : Test → spec.Test
plain_test t = record { name = plain_token t.name.now; length = t.length }
