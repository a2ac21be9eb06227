use Rattle.heartbeat.proofs.Lawful.{on_by_peer, led_by_peer}
use Rattle.heartbeat.proofs.laws.a_region_counts_by_its_peers.Goals as goal

pub returns : goal.returns
returns c = record { region = on_by_peer; leader = led_by_peer }
