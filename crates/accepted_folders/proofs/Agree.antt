-- Files of accepted folders agree with their classes.
use Rattle.agree_classes.proofs.Written.{files_agree}
use Rattle.accepted_folders.specs.Laws.{AcceptedFilesAgree}
use Rattle.accepted_folders.proofs.Calls.{needed, calls_among, initializers_among}
use Rattle.accepted_folders.proofs.Members.{defined}
use Rattle.accepted_folders.proofs.Worlds.{judged}

pub agree : AcceptedFilesAgree
agree entries files w fs id bytes a bodies built spelled = files_agree w entries id fs bytes (judged entries files w a) (λ e i. record {
  found = (bodies.found e i).found;
  has_body = (bodies.found e i).has_body;
  typed = a.typed e.member e.definition (needed w entries fs bodies e i) (defined w e.member e.definition (bodies.found e i).found);
  built = calls_among w entries fs e bodies i (built e i);
}) bodies.own (initializers_among w entries fs id bodies) spelled
