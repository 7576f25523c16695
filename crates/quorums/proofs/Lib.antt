pub mod Intersections
