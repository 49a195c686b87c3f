-- What a class of a listing is written as.
use Rattle.std.proofs.Common.{subst, ◌∙◌}
use Rattle.sj_units.proofs.Exact as units
use Rattle.sj_write_spec.specs.Classes.{NamesItsFiles, class_fields}
use Rattle.sj_write_spec.specs.Tables.{tables_of}
use Rattle.sj_write_spec.proofs.WrittenFile.{read_back}
use Rattle.sj_text_files.specs.Listed.{EachListedNamesItsFiles, EachListedIsMade}
use Rattle.sj_text_files.proofs.Bare.{listed_is_bare}
use Rattle.sj_text_files.proofs.BareFiles.{bare_names_its_files}
use Rattle.sj_text_files.proofs.Renumbered.{bare_again}

pub listed_names_its_files : EachListedNamesItsFiles
listed_names_its_files class text lists = subst NamesItsFiles (listed_is_bare class text lists) (bare_names_its_files class)

pub listed_is_made : EachListedIsMade
listed_is_made class text file lists is_file =
    let back = read_back units.reads_what_is_written class (record { file = file; is_file = is_file }) in
    (_, back.is_file, bare_again back.number (tables_of (class_fields class)).files class ∙ listed_is_bare class text lists)
