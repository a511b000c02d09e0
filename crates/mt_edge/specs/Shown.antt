-- What a contract sees of the sink, the tree and the keeper in memory.
use Rattle.std.specs.Prelude.{ℕ, List, Option, Some}
use Rattle.mt_edge.specs.Files.{Files}
use Rattle.mt_edge.specs.Held.{Script, files_of}
use Rattle.mt_edge.specs.declared.mem_keeper.MemKeeper.{MemKeeper}
use Rattle.mt_edge.specs.declared.mem_sink.MemSink.{MemSink}
use Rattle.mt_edge.specs.declared.mem_tree.MemTree.{MemTree}

-- the bytes that were put
abbrev pub sink_bytes : MemSink → List ℕ
sink_bytes s = s.bytes

abbrev pub sink_script : MemSink → Script
sink_script s = s.script

abbrev pub sink_faults : MemSink → ℕ
sink_faults s = s.faults

-- the files that are held
abbrev pub tree_files : MemTree → Files
tree_files t = files_of t.files

-- A tree and a sink in memory tell what they hold.
abbrev pub tree_holds : MemTree → Option Files
tree_holds t = Some (tree_files t)

abbrev pub sink_written : MemSink → Option (List ℕ)
sink_written s = Some (sink_bytes s)

abbrev pub tree_script : MemTree → Script
tree_script t = t.script

-- the faults of `list` and `read`, and those of `replace`
abbrev pub tree_reading : MemTree → ℕ
tree_reading t = t.reading

abbrev pub tree_writing : MemTree → ℕ
tree_writing t = t.writing

-- the bytes that are kept, and how many of them a stop leaves
abbrev pub keeper_bytes : MemKeeper → List ℕ
keeper_bytes k = k.bytes

abbrev pub keeper_kept : MemKeeper → Option (List ℕ)
keeper_kept k = Some (keeper_bytes k)

abbrev pub keeper_durable : MemKeeper → ℕ
keeper_durable k = k.durable

abbrev pub keeper_script : MemKeeper → Script
keeper_script k = k.script

-- the faults of `load`, and those of `append` and `sync`
abbrev pub keeper_reading : MemKeeper → ℕ
keeper_reading k = k.reading

abbrev pub keeper_writing : MemKeeper → ℕ
keeper_writing k = k.writing
