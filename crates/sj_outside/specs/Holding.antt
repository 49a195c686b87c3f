-- The contents of folders in memory.
use Rattle.sj_outside.specs.declared.contents.Contents.{Contents}
use Rattle.sj_outside.specs.Contents.{Parts}
use Rattle.sj_outside.specs.View.{parts_view}

-- what is held
abbrev pub contents_view : Contents → Parts
contents_view contents = parts_view contents.parts.items
