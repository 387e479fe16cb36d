-- The lists that `Group::new` is given.
use Rattle.agg_group.specs.declared.lists.Lists.{Lists}
use Rattle.agg_group.specs.Rules.{Rules, rules_of}

abbrev pub rules : Lists → Rules
rules l = rules_of l.includes.now l.mandatory.now l.hierarchies.now l.joints.now l.cap
