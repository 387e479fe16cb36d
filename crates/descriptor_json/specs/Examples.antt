-- Small JSON values, on which the definitions are computed.
use Rattle.std.specs.Prelude.{codes, negsuc}
use Rattle.serde_json.specs.Data.{Data, null, number, unsigned, negative, string, object, member, no_members}

-- {"name": "dt"}
abbrev pub only_name : Data
only_name = object (member (codes "name") (string (codes "dt")) no_members)

-- {"name": "dt", "type": "Date"}
abbrev pub whole_column : Data
whole_column = object (member (codes "name") (string (codes "dt")) (member (codes "type") (string (codes "Date")) no_members))

-- {"column": "a", "derived": null}
abbrev pub two_kinds : Data
two_kinds = object (member (codes "column") (string (codes "a")) (member (codes "derived") null no_members))

-- {"joint_dims": null}
abbrev pub null_joints : Data
null_joints = object (member (codes "joint_dims") null no_members)

-- {"dim_cap": 2}
abbrev pub two_at_most : Data
two_at_most = object (member (codes "dim_cap") (number (unsigned 2)) no_members)

-- {"dim_cap": -1}
abbrev pub less_than_none : Data
less_than_none = object (member (codes "dim_cap") (number (negative (negsuc 0))) no_members)

-- {"dim_cap": "2"}
abbrev pub cap_in_words : Data
cap_in_words = object (member (codes "dim_cap") (string (codes "2")) no_members)

-- {}
abbrev pub empty : Data
empty = object no_members
