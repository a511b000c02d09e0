-- That programs have what native methods need.
use Rattle.program_rules.specs.Programs.{Look}
use Rattle.type_rules.specs.References.{classes_of}
use Rattle.type_laws.specs.Soundness.{IsBuilt}
use Rattle.class_order.specs.Ranks.{IsOrdered}
use Rattle.library_laws.specs.KeepingHosts.{IsKeepingHost}
use Rattle.library_laws.specs.Hosts.{IsNativeHost}

-- A program that is built, and whose classes stand in an order, has what native methods need, but
-- those of classes that keep items.
abbrev pub HostsNatives : Look → Type 0
HostsNatives p = IsBuilt (classes_of p) → IsOrdered p → IsNativeHost p

-- The same of those.
abbrev pub HostsKeepers : Look → Type 0
HostsKeepers p = IsBuilt (classes_of p) → IsOrdered p → IsKeepingHost p
