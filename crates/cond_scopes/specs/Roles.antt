-- What a name is by the node in which it stands, without the code's type.
use Rattle.scope_readings.specs.Walks.{Role as PlainRole, ordinary_use, member_use, tag, declared_name}
use Rattle.cond_scopes.specs.declared.roles.Role.{Role}
use Rattle.cond_scopes.specs.declared.roles.Role.TheVariants as r

abbrev pub plain_role : Role → PlainRole
plain_role r.Use = ordinary_use
plain_role r.Member = member_use
plain_role r.Tag = tag
plain_role r.Declared = declared_name
