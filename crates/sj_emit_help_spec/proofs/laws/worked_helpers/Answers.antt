use Rattle.std.proofs.Common.{refl}
use Rattle.std.specs.Fmt.{digits}
use Rattle.js_tree.specs.Written.{put}
use Rattle.sj_emit_help_spec.proofs.laws.worked_helpers.Goals as goal

pub returns-clause-w_A : goal.returns-clause-w_A
returns-clause-w_A c = refl

pub returns-clause-w_C : goal.returns-clause-w_C
returns-clause-w_C c = refl

pub returns-clause-w_ae : goal.returns-clause-w_ae
returns-clause-w_ae c = refl

pub returns-clause-w_asA : goal.returns-clause-w_asA
returns-clause-w_asA c = refl

pub returns-clause-w_asB : goal.returns-clause-w_asB
returns-clause-w_asB c = refl

pub returns-clause-w_asC : goal.returns-clause-w_asC
returns-clause-w_asC c = refl

pub returns-clause-w_asI : goal.returns-clause-w_asI
returns-clause-w_asI c = refl

pub returns-clause-w_asJ : goal.returns-clause-w_asJ
returns-clause-w_asJ c = refl

pub returns-clause-w_asS : goal.returns-clause-w_asS
returns-clause-w_asS c = refl

pub returns-clause-w_asT : goal.returns-clause-w_asT
returns-clause-w_asT c = refl

pub returns-clause-w_asV : goal.returns-clause-w_asV
returns-clause-w_asV c = refl

pub returns-clause-w_asZ : goal.returns-clause-w_asZ
returns-clause-w_asZ c = refl

pub returns-clause-w_ase : goal.returns-clause-w_ase
returns-clause-w_ase c = refl

pub returns-clause-w_cce : goal.returns-clause-w_cce
returns-clause-w_cce c = refl

pub returns-clause-w_cov : goal.returns-clause-w_cov
returns-clause-w_cov c = refl

pub returns-clause-w_eq : goal.returns-clause-w_eq
returns-clause-w_eq c = refl

pub returns-clause-w_fits : goal.returns-clause-w_fits
returns-clause-w_fits c = refl

pub returns-clause-w_get : goal.returns-clause-w_get
returns-clause-w_get c = refl

pub returns-clause-w_id : goal.returns-clause-w_id
returns-clause-w_id c = refl

pub returns-clause-w_im : goal.returns-clause-w_im
returns-clause-w_im c = refl

pub returns-clause-w_ioe : goal.returns-clause-w_ioe
returns-clause-w_ioe c = refl

pub returns-clause-w_isA : goal.returns-clause-w_isA
returns-clause-w_isA c = refl

pub returns-clause-w_isB : goal.returns-clause-w_isB
returns-clause-w_isB c = refl

pub returns-clause-w_isC : goal.returns-clause-w_isC
returns-clause-w_isC c = refl

pub returns-clause-w_isI : goal.returns-clause-w_isI
returns-clause-w_isI c = refl

pub returns-clause-w_isJ : goal.returns-clause-w_isJ
returns-clause-w_isJ c = refl

pub returns-clause-w_isS : goal.returns-clause-w_isS
returns-clause-w_isS c = refl

pub returns-clause-w_isT : goal.returns-clause-w_isT
returns-clause-w_isT c = refl

pub returns-clause-w_isV : goal.returns-clause-w_isV
returns-clause-w_isV c = refl

pub returns-clause-w_isZ : goal.returns-clause-w_isZ
returns-clause-w_isZ c = refl

pub returns-clause-w_ix : goal.returns-clause-w_ix
returns-clause-w_ix c = refl

pub returns-clause-w_kC : goal.returns-clause-w_kC
unfolding put digits
returns-clause-w_kC c = (refl, refl)

pub returns-clause-w_kI : goal.returns-clause-w_kI
unfolding put digits
returns-clause-w_kI c = (refl, refl)

pub returns-clause-w_kJ : goal.returns-clause-w_kJ
unfolding put digits
returns-clause-w_kJ c = (refl, refl)

pub returns-clause-w_kT : goal.returns-clause-w_kT
unfolding put digits
returns-clause-w_kT c = (refl, refl)

pub returns-clause-w_kV : goal.returns-clause-w_kV
unfolding put digits
returns-clause-w_kV c = (refl, refl)

pub returns-clause-w_kZ : goal.returns-clause-w_kZ
unfolding put digits
returns-clause-w_kZ c = (refl, refl)

pub returns-clause-w_kof : goal.returns-clause-w_kof
returns-clause-w_kof c = refl

pub returns-clause-w_ld : goal.returns-clause-w_ld
returns-clause-w_ld c = refl

pub returns-clause-w_lm : goal.returns-clause-w_lm
returns-clause-w_lm c = refl

pub returns-clause-w_mk : goal.returns-clause-w_mk
returns-clause-w_mk c = refl

pub returns-clause-w_nme : goal.returns-clause-w_nme
returns-clause-w_nme c = refl

pub returns-clause-w_nn : goal.returns-clause-w_nn
returns-clause-w_nn c = refl

pub returns-clause-w_npe : goal.returns-clause-w_npe
returns-clause-w_npe c = refl

pub returns-clause-w_nse : goal.returns-clause-w_nse
returns-clause-w_nse c = refl

pub returns-clause-w_put : goal.returns-clause-w_put
returns-clause-w_put c = refl

pub returns-clause-w_set : goal.returns-clause-w_set
returns-clause-w_set c = refl
