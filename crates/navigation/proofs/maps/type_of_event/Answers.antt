use Rattle.navigation.proofs.maps.type_of_event.Goals as goal

pub returns-clause-one : goal.returns-clause-one
returns-clause-one g c = λ model shown map owns. rw (c.event_map_of_event-map.ensures.one model shown map owns) (c.type_of_map.ensures.map model shown)

pub returns-clause-sound : goal.returns-clause-sound
returns-clause-sound g c = λ model shown. (c.event_map_of_event-map.result, c.event_map_of_event-map.ensures.sound model shown, c.type_of_map.ensures.map model shown)
