-- A list that is a class is read where the class is.
use Rattle.class_touches.specs.Laws.{ListsTouchAsClasses, ListsAreReadAsClasses}

pub touch-as-classes : ListsTouchAsClasses
touch-as-classes project files place tokens c listed = (
  λ t. record {
    token = t.token;
    member = (listed t.token).0 t.among;
    unit = t.is_read.unit;
    present = t.is_read.present;
    active = t.is_read.reads;
  },
  λ t. record { token = t.token; among = (listed t.token).1 t.member; is_read = record { unit = t.unit; present = t.present; reads = t.active } },
)

pub read-as-classes : ListsAreReadAsClasses
read-as-classes project files place tokens c name listed = (
  λ t. record {
    token = t.token;
    member = (listed t.token).0 t.among;
    unit = t.is_read.unit;
    present = t.is_read.present;
    defined = t.is_read.reads;
  },
  λ t. record { token = t.token; among = (listed t.token).1 t.member; is_read = record { unit = t.unit; present = t.present; reads = t.defined } },
)
