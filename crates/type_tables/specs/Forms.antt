-- What the tables hold, without pointers and room in memory.
use Rattle.c_types.specs.Types.{PlainType, plain_type}
use Rattle.c_types.specs.Tags.{PlainMember}
use Rattle.type_tables.specs.Tables as plain
use Rattle.type_tables.specs.Tables.{object, declared_function}
use Rattle.type_tables.specs.declared.entries.Member.{Member}
use Rattle.type_tables.specs.declared.entries.DeclaredType.{DeclaredType}
use Rattle.type_tables.specs.declared.entries.Sort.{Sort}
use Rattle.type_tables.specs.declared.entries.Sort.TheVariants.{Object, Function}
use Rattle.type_tables.specs.declared.entries.FileName.{FileName}

abbrev pub member_form : Member → PlainMember
member_form m = record { name = m.name.items; ty = plain_type m.ty }

abbrev pub declared_type_form : DeclaredType → PlainType
declared_type_form p = plain_type p.ty

abbrev pub sort_form : Sort → plain.Sort
sort_form (Object ty) = object (plain_type ty)
sort_form (Function number) = declared_function number

abbrev pub file_name_form : FileName → plain.FileName
file_name_form n = record { sort = sort_form n.sort; internal = n.internal }
