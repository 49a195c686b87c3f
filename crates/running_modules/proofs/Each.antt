-- What holds of each kind of piece that a class can have holds of each piece of a class.
use Rattle.std.proofs.Common.{◌||◌, ◌++◌, Bool, true, false, List, [], ◌∷◌, inl, inr, subst, Contains}
use Rattle.std.proofs.lemmas.List.Elements.{Contains-append_cases}
use Rattle.sj_emit_help_spec.specs.Words.{all_kinds}
use Rattle.js_tree.specs.Terms.{Name, Piece}
use Rattle.declared_files.specs.Pieces.{Parts, pieces, when, constants_piece, class_piece, variable_piece, setter_piece, cell_piece, load_piece, store_piece, cell_pieces, all_statics, test_piece, kind_of_class, cast_piece, constants_of, class_of, module_of, tests_of}
use Rattle.sj_split.proofs.Members.{cons_cases}
use Rattle.sj_trees.specs.declared.classes.FieldDef.{FieldDef}
use Rattle.worklist.proofs.Inserted.{nothing_in}

pub record EachKind (Right : Piece → Type 0) (p : Parts) : Type 0 where
  pub constants : Right (constants_piece p.class.name p.ancestors)
  pub class : Right (class_piece p.class.name p.class.superclass p.entries p.fields)
  pub variable : (d : FieldDef) → Right (variable_piece p.class.name d)
  pub setter : (d : FieldDef) → Right (setter_piece p.class.name d)
  pub cell : Right (cell_piece p.class.name)
  pub load : Right (load_piece p.class.name)
  pub store : Right (store_piece p.class.name)
  pub test : Right (test_piece p.class.name p.instances (kind_of_class p.class.name all_kinds))
  pub cast : Right (cast_piece p.class.name)

module _ (Right : Piece → Type 0) where
  abbrev Each : List Piece → Type 0
  Each qs = (q : Piece) → Contains qs q → Right q

  none_right : Each []
  none_right q i = nothing_in q i

  more_right : (p : Piece) (ps : List Piece) → Right p → Each ps → Each (p ∷ ps)
  more_right p ps h k q i = elim (cons_cases p q ps i) [ inl e ↦ subst Right e h | inr later ↦ k q later ]

  one_right : (p : Piece) → Right p → Each (p ∷ [])
  one_right p h = more_right p [] h none_right

  both_right : (ps qs : List Piece) → Each ps → Each qs → Each (ps ++ qs)
  both_right ps qs h k q i = elim (Contains-append_cases ps qs q i) [ inl j ↦ h q j | inr j ↦ k q j ]

  when_right : (b : Bool) (ps : List Piece) → Each ps → Each (when b ps)
  when_right true ps h = h
  when_right false ps h = none_right

  module _ (p : Parts) (h : EachKind Right p) where
    abbrev c : Name
    c = p.class.name

    statics_right : (ds : List FieldDef) → Each (all_statics c ds)
    statics_right [] = none_right
    statics_right (d ∷ ds) = more_right (variable_piece c d) (setter_piece c d ∷ all_statics c ds) (h.variable d) (more_right (setter_piece c d) (all_statics c ds) (h.setter d) (statics_right ds))

    cells_right : (loaded : Bool) → Each (cell_pieces c loaded)
    cells_right loaded = more_right (cell_piece c) (when loaded (load_piece c ∷ []) ++ store_piece c ∷ []) h.cell (both_right (when loaded (load_piece c ∷ [])) (store_piece c ∷ []) (when_right loaded (load_piece c ∷ []) (one_right (load_piece c) h.load)) (one_right (store_piece c) h.store))

    pub each_own : Each (pieces p)
    each_own =
        both_right (constants_of p ++ class_of p ++ all_statics c p.statics ++ module_of p) (tests_of p)
        (both_right (constants_of p ++ class_of p ++ all_statics c p.statics) (module_of p)
        (both_right (constants_of p ++ class_of p) (all_statics c p.statics)
        (both_right (constants_of p) (class_of p)
        (when_right (p.is_live || p.is_base) (constants_piece c p.ancestors ∷ []) (one_right (constants_piece c p.ancestors) h.constants))
        (when_right p.is_live (its_class ∷ []) (one_right its_class h.class)))
        (statics_right p.statics))
        (when_right (p.is_loaded || p.is_stored) (cell_pieces c p.is_loaded) (cells_right p.is_loaded)))
        (both_right (when (p.is_tested || p.is_cast) (tested ∷ [])) (when p.is_cast (cast_piece c ∷ []))
        (when_right (p.is_tested || p.is_cast) (tested ∷ []) (one_right tested h.test))
        (when_right p.is_cast (cast_piece c ∷ []) (one_right (cast_piece c) h.cast)))
      where
        its_class : Piece
        its_class = class_piece c p.class.superclass p.entries p.fields

        tested : Piece
        tested = test_piece c p.instances (kind_of_class c all_kinds)
