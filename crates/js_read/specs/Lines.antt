-- What a line of the code stands for.
use Rattle.js_tree.specs.Views.{item_view}
use Rattle.js_read_spec.specs.Modules as reading
use Rattle.js_read.specs.declared.lines.Line.{Line}
use Rattle.js_read.specs.declared.lines.Line.TheVariants as lines

abbrev pub line_view : Line → reading.Line
line_view (lines.Import i) = reading.import_line i
line_view (lines.Item i) = reading.item_line (item_view i)
line_view (lines.Export xs) = reading.export_line xs
