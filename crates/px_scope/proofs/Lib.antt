pub mod EachResolved
