-- How the lines of rows are put together, and how long they are.
mod Lengths
mod Runs
mod Examples
