-- The parts of folders in memory as contents.
use Rattle.std.specs.Prelude.{ℕ, List, [], ◌∷◌, map}
use Rattle.sj_outside.specs.declared.parts.Part.{Part}
use Rattle.sj_outside.specs.declared.parts.Part.TheOpen.{Part-F}
use Rattle.sj_outside.specs.declared.parts.Part.TheFolds.{fold-Part}
use Rattle.sj_outside.specs.declared.parts.Found.{Found}
use Rattle.sj_outside.specs.declared.parts.Found.TheVariants.{File, Folder}
use Rattle.sj_outside.specs.Contents.{Parts, no_parts, file_part, folder_part, Held, file_held, folder_held}

-- a part of this name in front of others
abbrev pub in_front : List ℕ → Held → Parts → Parts
in_front name (file_held bytes) others = file_part name bytes others
in_front name (folder_held inner) others = folder_part name inner others

abbrev pub parts_of : List (List ℕ × Held) → Parts
parts_of [] = no_parts
parts_of (part ∷ others) = in_front part.0 part.1 (parts_of others)

abbrev pub view_step : Part-F (List ℕ × Held) → List ℕ × Held
view_step (Part-F.File name bytes) = (name, file_held bytes)
view_step (Part-F.Folder name parts) = (name, folder_held (parts_of parts.items))

-- the name of a part, and what it is
abbrev pub part_view : Part → List ℕ × Held
part_view = fold-Part (List ℕ × Held) view_step

abbrev pub parts_view : List Part → Parts
parts_view parts = parts_of (map part_view parts)

abbrev pub found_view : Found → Held
found_view (File bytes) = file_held bytes.now
found_view (Folder parts) = folder_held (parts_view parts.now)
