-- The functions of bodies.
use Rattle.std.specs.Prelude.{◌≡◌, List, map}
use Rattle.std.specs.List.{Contains}
use Rattle.js_tree.specs.declared.items.JsPiece.{JsPiece}
use Rattle.js_tree.specs.Rules.{IsPiece}
use Rattle.js_tree.specs.Views.{piece_view}
use Rattle.world_pieces.specs.Pieces.{piece_of_member}
use Rattle.agree_soundness.specs.EmittedMethods.{EmittedMethod}
use Rattle.sj_emit_expr_pieces.specs.Owners.{OnObjects}
use Rattle.sj_names.specs.declared.method_names.Member.{Member}
use Rattle.sj_text_spec.specs.Rules.{HasListing}
use Rattle.sj_trees.specs.declared.classes.ClassDef.{ClassDef}
use Rattle.sj_world.specs.Known.{Classes}
use Rattle.linked_modules.specs.Bodies.{IsFound}
use Rattle.folder_linking.specs.declared.functions.Function.{Function}

-- each class is one of which there is a listing, as each class of a file is
abbrev pub AreListed : Classes → Type 0
AreListed w = (c : ClassDef) → Contains w c → HasListing c

-- the function of the member's body; it can be printed where the body's fields are those of objects
pub record IsFunction (w : Classes) (f : Function) : Type 0 where
  pub method : EmittedMethod
  pub member_is : method.member ≡ f.member.now
  pub found : IsFound w method
  pub piece_is : piece_view f.piece ≡ piece_of_member w method
  pub rules : OnObjects method.its_body → IsPiece (piece_view f.piece)

abbrev pub piece : Function → JsPiece
piece f = f.piece

abbrev pub member_of : Function → Member
member_of f = f.member.now

-- the functions of these members' bodies
pub record AreFunctions (w : Classes) (members : List Member) (fs : List Function) : Type 0 where
  pub members_are : map member_of fs ≡ members
  pub each : (f : Function) → Contains fs f → IsFunction w f
