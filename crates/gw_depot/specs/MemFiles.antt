-- Files in memory by name.
use Rattle.std.specs.Prelude.{option_map}
use Rattle.std.specs.BTreeMap.{get_by_text}
use Rattle.gw_depot.specs.declared.mem_files.MemFiles.{MemFiles}
use Rattle.gw_depot.specs.Files.{Files}

-- what each name holds
unfoldable pub held : MemFiles → Files
held files name = option_map (λ bytes. bytes.items) (get_by_text files.by_name name)
