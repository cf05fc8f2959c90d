-- What is kept of sends for a cause where no idle limit is set, and the changes between them. The newest send is in front.
use Rattle.std.specs.Prelude.{ℕ, ◌+◌, List, [], ◌∷◌, ◌++◌, Option, Some, None, is_some, if◌then◌else◌}
use Rattle.five_tuple.specs.declared.Flow.{Flow}
use Rattle.connection_table.specs.Touches.{same_flow}
use Rattle.selection.specs.Readied.{same_backend}
use Rattle.cluster_node.specs.declared.events.Event.{Event}
use Rattle.cluster_node.specs.declared.outcomes.Outcome.{Outcome}
use Rattle.cluster_node.specs.declared.outcomes.Outcome.TheVariants.{Installed, Placed, Forward, Dropped, Restarted, Refused}
use Rattle.run_report.specs.declared.noted.Noted.{Noted}
use Rattle.run_report.specs.declared.sending.Sending.{Sending}
use Rattle.run_report.specs.Splits.{version_of}
use Rattle.connection_changes.specs.declared.causes.Change.{Change}
use Rattle.connection_changes.specs.declared.sites.Site.{Site}
use Rattle.summary_book.specs.declared.sent.Sent.{Sent}

-- what an event sent, in such a life of its node
abbrev pub sent_by : Event → Outcome → ℕ → Option Sent
sent_by e Installed life = None
sent_by e (Placed w f) life = None
sent_by e (Forward n w p x b v) life = Some (record { flow = x; backend = b; version = version_of e; origin = v; node = n; worker = w; life = life })
sent_by e (Dropped p c) life = None
sent_by e (Restarted l) life = None
sent_by e (Refused r) life = None

-- what is kept of a send
abbrev pub sent_of : Noted Site → Sent
sent_of n = record {
  flow = n.sending.flow;
  backend = n.sending.backend;
  version = n.sending.version;
  origin = n.sending.origin;
  node = n.beside.node;
  worker = n.beside.worker;
  life = n.beside.life;
}

abbrev pub sending_of : Sent → Sending
sending_of s = record { number = 0; flow = s.flow; version = s.version; backend = s.backend; origin = s.origin }

abbrev pub site_of : Sent → Site
site_of s = record { packet = 0; node = s.node; worker = s.worker; time = 0; life = s.life; clock = 0 }

-- the change between two sends of a flow
abbrev pub change_of : Sent → Sent → Change
change_of first later = record {
  split = record { first = sending_of first; later = sending_of later };
  first = site_of first;
  later = site_of later;
}

-- the same without its version
abbrev pub unversioned : Sent → Sent
unversioned s = record s { version = 0 }

-- two sends of a flow are a change where the backends differ
abbrev pub change_if : Sent → Sent → List Change
change_if first later = if same_backend first.backend later.backend then [] else change_of first later ∷ []

-- the same of a send after its flow's last one, of which no version is kept
abbrev pub changes_with : Option Sent → Sent → List Change
changes_with None later = []
changes_with (Some first) later = change_if (unversioned first) later

-- the last send of a flow
abbrev pub last_in : List Sent → Flow → Option Sent
last_in [] x = None
last_in (s ∷ ss) x = if same_flow s.flow x then Some s else last_in ss x

-- the changes, in the order of their later sends
abbrev pub changes_in : List Sent → List Change
changes_in [] = []
changes_in (s ∷ ss) = changes_in ss ++ changes_with (last_in ss s.flow) s

-- how many flows there are
abbrev pub count_in : List Sent → ℕ
count_in [] = 0
count_in (s ∷ ss) = count_in ss + (if is_some (last_in ss s.flow) then 0 else 1)
